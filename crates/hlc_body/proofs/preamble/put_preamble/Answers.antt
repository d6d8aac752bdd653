-- All parts except the rows, one after the other.
use Rattle.hlc_body.{specs.Seen.seen, proofs.Preambles.preamble_spelled}
use Rattle.hlc_body.proofs.preamble.put_preamble.Goals as goal

pub returns : goal.returns
returns c =
    preamble_spelled (seen c.args.preamble.now) c.args.out.now.items c.extend_from_slice.new.self.items
    c.put_links.new.out.items
    c.put_snapshots.new.out.items c.extend_from_slice-2.new.self.items c.extend_from_slice-3.new.self.items
    c.extend_from_slice-4.new.self.items
    (rw c.to_be_bytes.ensures at c.in_ok-extend_from_slice.ensures.items)
    c.in_ok-put_links.ensures c.in_ok-put_snapshots.ensures
    (rw c.to_be_bytes-2.ensures at c.in_ok-extend_from_slice-2.ensures.items)
    (rw (c.to_be_bytes-3.ensures, c.bits-horizon.ensures.value) at c.in_ok-extend_from_slice-3.ensures.items)
    (rw c.to_be_bytes-4.ensures at c.in_ok-extend_from_slice-4.ensures.items)

-- The node, the number and the stamp, one after another.
use Rattle.std.specs.Int.{w16, w64, to_be_bytes}
use Rattle.hlc_wire.proofs.PlacingLemmas.{put_three}
use Rattle.hlc_wire.proofs.placing.put_numbers.Goals as goal

pub returns-clause-put : goal.returns-clause-put
returns-clause-put c =
    put_three c.args.at c.put_bytes-at_number.result c.put_bytes-at_stamp.result (to_be_bytes w16 c.args.item.now.node)
    (to_be_bytes w64 c.args.item.now.number) (to_be_bytes w64 c.args.item.now.stamp) c.args.out.now
    c.put_bytes-at_number.new.out c.put_bytes-at_stamp.new.out c.put_bytes.new.out
    (rw (c.to_be_bytes.ensures, c.node.ensures) at c.put_bytes-at_number.ensures.put)
    (rw c.to_be_bytes.ensures at c.put_bytes-at_number.ensures.end)
    (rw (c.to_be_bytes-2.ensures, c.number.ensures) at c.put_bytes-at_stamp.ensures.put)
    (rw c.to_be_bytes-2.ensures at c.put_bytes-at_stamp.ensures.end)
    (rw (c.to_be_bytes-3.ensures, c.bits-stamp.ensures.value, c.stamp.ensures) at c.put_bytes.ensures.put)
    c.requires

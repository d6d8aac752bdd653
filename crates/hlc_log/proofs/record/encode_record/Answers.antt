-- The record fills the vector.
use Rattle.std.proofs.Common.{◌≡◌, ◌∙◌, drop, length, subst}
use Rattle.hlc_wire.proofs.PlacingLemmas.{puts_all, filled}
use Rattle.hlc_log.specs.Record.{record_bytes, RecordFits}
use Rattle.hlc_log.proofs.record.encode_record.Goals as goal

pub returns-clause-ok : goal.returns-clause-ok
returns-clause-ok c =
    let put = rw c.as_ref-entry.ensures at c.put_record.ensures.put in
    let size = rw c.as_ref-entry.ensures at c.in-Ok.ensures.1 in
    let room : length c.as_mut_slice.result.now ≡ c.in_ok-out.out.len = c.as_mut_slice.ensures.len in
    let len : c.in_ok-out.out.len ≡ length (record_bytes c.args.entry.now) = c.in_ok-out.ensures.len ∙ size in (
      subst RecordFits c.as_ref-entry.ensures
          (c.put_record.ensures.fits (puts_all (record_bytes c.args.entry.now) c.put_record.result
          c.as_mut_slice.result.now c.put_record.new.out (room ∙ len) put)),
      filled (record_bytes c.args.entry.now) c.put_record.result c.as_mut_slice.result.now c.put_record.new.out
          (drop (length c.put_record.new.out) c.in_ok-out.out.items) c.in_ok-out.out.len room len put,
    )

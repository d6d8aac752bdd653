-- All of the bytes are read back.
use Rattle.std.proofs.Common.{ap, subst, ◌∙◌, arith}
use Rattle.hlc_wire.specs.Reading.{Gives, whole}
use Rattle.hlc_wire.proofs.FieldLemmas.{whole_again}
use Rattle.hlc_wire.proofs.ItemLemmas.{is_found}
use Rattle.hlc_log.specs.{declared.record.Record.Record, Record.record_bytes, Record.record_at, Record.RecordFits}
use Rattle.hlc_log.proofs.RecordLemmas.{record_reader}
use Rattle.hlc_log.proofs.record.decode_record.Goals as goal

pub returns-clause-found : goal.returns-clause-found
returns-clause-found c =
    is_found record_at record_bytes RecordFits record_reader c.args.bytes.now c.all.result
    (λ i. omega (arith, c.type_inv.bytes i)) c.all.ensures.read

pub returns-clause-only : goal.returns-clause-only
returns-clause-only c = λ entry fits e.
    subst (λ f. Gives (λ (x : Record). x) c.all.result f)
    (ap (λ bs. whole (record_at bs)) e ∙ whole_again record_at record_bytes RecordFits record_reader entry fits)
    c.all.ensures.read

-- The rows of the keys are vacuumed, as by a plan with this tally.
use Rattle.std.proofs.Common.{refl}
use Rattle.hlc_vacuum_draft.specs.Report.{report_of}
use Rattle.hlc_vacuum.specs.Part.{with_plan}
use Rattle.hlc_vacuum.proofs.PartRows.{kept-flags, part-vacuum, part-flags}
use Rattle.hlc_vacuum.proofs.part.apply_part_tally.Goals as goal

pub apply_to_keys-requires : goal.apply_to_keys-requires
apply_to_keys-requires c =
    let of = c.requires.2 in
    rw (c.as_slice.ensures.value, of.is)
    (part-flags (with_plan c.args.part of.plan) c.args.table.now c.requires.0 c.requires.1 of.made)

pub returns-clause-vacuumed : goal.returns-clause-vacuumed
returns-clause-vacuumed c = λ after limit plan h is.
    part-vacuum (with_plan c.args.part plan) c.args.table.now c.apply_to_keys.new.table after limit (report_of plan) h
    (rw (c.as_slice.ensures.value, is) at c.apply_to_keys.ensures.rows) refl

pub returns-clause-within : goal.returns-clause-within
returns-clause-within c = rw c.apply_to_keys.ensures.rows
    (kept-flags c.as_slice.result.now c.args.part.tally.keep c.args.table.now)

-- The rows of the keys are vacuumed.
use Rattle.hlc_vacuum.proofs.PartRows.{kept-flags, part-vacuum, part-flags}
use Rattle.hlc_vacuum.proofs.part.apply_part.Goals as goal

pub apply_to_keys-numbers-requires : goal.apply_to_keys-numbers-requires
apply_to_keys-numbers-requires c = rw (c.as_slice.ensures.value, c.tally.ensures)
    (part-flags c.args.part c.args.table.now c.requires.0 c.requires.1 c.requires.2)

pub returns-clause-vacuumed : goal.returns-clause-vacuumed
returns-clause-vacuumed c = λ after limit h.
    part-vacuum c.args.part c.args.table.now c.apply_to_keys-numbers.new.table after limit c.into_report.result h
    (rw (c.as_slice.ensures.value, c.tally.ensures) at c.apply_to_keys-numbers.ensures.rows) c.into_report.ensures

pub returns-clause-within : goal.returns-clause-within
returns-clause-within c = rw c.apply_to_keys-numbers.ensures.rows
    (kept-flags c.as_slice.result.now c.tally.result.now.keep c.args.table.now)

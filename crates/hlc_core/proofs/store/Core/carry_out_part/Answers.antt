-- The rows of the part are vacuumed, at the points of the open snapshots up to the stamp, and the horizon is moved.
use Rattle.std.proofs.Common.{subst}
use Rattle.hlc_columns.specs.Answers.{in_part}
use Rattle.hlc_vacuum.specs.Part.{IsPartVacuum}
use Rattle.hlc_core.proofs.{Consistent.consistent-fewer, Sound.sound-vacuum, PartVacuumLemmas.part-vacuums_keys}
use Rattle.hlc_core.proofs.store.Core.carry_out_part.Goals as goal

pub apply_part-made-requires : goal.apply_part-made-requires
apply_part-made-requires c =
    let planned = rw (← c.self.view_is) at c.requires.plan in (planned.0, planned.1, planned.2.made)

pub invariant_of-self : goal.invariant_of-self
invariant_of-self c =
    let planned = rw (← c.self.view_is) at c.requires.plan.2 in
    let made = c.apply_part-made.ensures.vacuumed c.requires.plan.0 c.requires.plan.1 planned.made in
    let low = rw (← c.self.view_is) at c.requires.low in (
      consistent-fewer _ _ _ _ c.self.invariant.0 made.row_set made.within,
      sound-vacuum _ _ _ _ _ _ _ c.self.invariant.1 low made.within,
    )

pub returns-clause-vacuums : goal.returns-clause-vacuums
returns-clause-vacuums c = λ past after limit h plan.
    let planned = rw (← c.self.view_is) at plan in
    let made = subst (IsPartVacuum c.self.inside.table c.apply_part-made.new.table (in_part after c.args.part.end))
    c.apply_part-made.ensures.report (c.apply_part-made.ensures.vacuumed after limit planned.made) in
    rw (← c.self.view_is)
    (rw (c.apply_part-made.ensures.report, c.apply_part-made.ensures.end)
    (part-vacuums_keys _ c.args.at past after limit c.args.part c.apply_part-made.new.table
    (rw (← c.self.view_is) at h) (rw (← c.self.view_is) at c.requires.low) (rw (← c.self.view_is) at c.requires.high)
    planned made))

pub returns-clause-within : goal.returns-clause-within
returns-clause-within c =
    rw (← c.self.view_is) c.apply_part-made.ensures.within

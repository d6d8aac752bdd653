-- The rows of the part are vacuumed, at the points of the open snapshots up to the stamp, and the horizon is moved.
use Rattle.std.proofs.Common.{◌∙◌, ap}
use Rattle.hlc_vacuum_draft.specs.Report.{numbers_in, report_of}
use Rattle.hlc_vacuum.specs.Part.{with_plan}
use Rattle.hlc_core.proofs.{Consistent.consistent-fewer, Sound.sound-vacuum, PartVacuumLemmas.part-vacuums_keys}
use Rattle.hlc_core.proofs.store.Core.carry_out_part_tally.Goals as goal

pub apply_part_tally-made-requires : goal.apply_part_tally-made-requires
apply_part_tally-made-requires c =
    let planned = rw (← c.self.view_is) at c.requires.tally in
    let of = planned.2 in (
      planned.0,
      planned.1,
      record { plan = of.plan; made = of.planned.made; is = of.is },
    )

pub invariant_of-self : goal.invariant_of-self
invariant_of-self c =
    let of = rw (← c.self.view_is) at c.requires.tally.2 in
    let made = c.apply_part_tally-made.ensures.vacuumed c.requires.tally.0 c.requires.tally.1 of.plan of.planned.made
    of.is in
    let low = rw (← c.self.view_is) at c.requires.low in (
      consistent-fewer _ _ _ _ c.self.invariant.0 made.row_set made.within,
      sound-vacuum _ _ _ _ _ _ _ c.self.invariant.1 low made.within,
    )

pub returns-clause-vacuums : goal.returns-clause-vacuums
returns-clause-vacuums c = λ past after limit h tally.
    let of = rw (← c.self.view_is) at tally in
    let made = part-vacuums_keys _ c.args.at past after limit (with_plan c.args.part of.plan)
    c.apply_part_tally-made.new.table (rw (← c.self.view_is) at h)
    (rw (← c.self.view_is) at c.requires.low) (rw (← c.self.view_is) at c.requires.high) of.planned
    (c.apply_part_tally-made.ensures.vacuumed after limit of.plan of.planned.made of.is) in
    rw (← c.self.view_is)
    (rw (c.apply_part_tally-made.ensures.end) (
      made.0,
      made.1,
      record {
        report = report_of of.plan;
        vacuums_keys = made.2;
        are = c.apply_part_tally-made.ensures.numbers ∙ ap numbers_in of.is;
      },
    ))

pub returns-clause-within : goal.returns-clause-within
returns-clause-within c =
    rw (← c.self.view_is) c.apply_part_tally-made.ensures.within

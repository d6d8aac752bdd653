-- The remaining rows are a vacuum of the earlier ones at the points of the plan, the last of which is the stamp.
use Rattle.std.proofs.Common.{ap, refl, sym, ◌∙◌, ◌≡◌, ◌+◌, ◌≤◌, subst, length, arith}
use Rattle.std.specs.List.{items_where_true}
use Rattle.hlc_snapshot.specs.RegistryView.{stamps_to}
use Rattle.hlc_clock.specs.Points.{ArePoints}
use Rattle.hlc_witness.specs.Cost.{rows_cost}
use Rattle.hlc_vacuum_draft.specs.{declared.report.Numbers.Numbers, Report.numbers_in, Report.report_of}
use Rattle.hlc_vacuum_draft.specs.Plan.{PlanView, TallyView, IsPlanOf, tally_of}
use Rattle.hlc_vacuum_draft.specs.Vacuumed.{IsVacuumOf, rows_to}
use Rattle.hlc_core.specs.{Past.floor, Past.horizon, StoreView.StoreView}
use Rattle.hlc_clock.proofs.PointLemmas.{points-last}
use Rattle.hlc_core.proofs.{PastLemmas.vacuum-none, CheckpointLemmas.floor-in}
use Rattle.hlc_core.proofs.{VacuumLemmas.vacuums, Sound.sound-vacuum, Consistent.consistent-fewer}
use Rattle.hlc_core.proofs.store.Core.carry_out_tally.Goals.{After-apply_tally-numbers}
use Rattle.hlc_core.proofs.store.Core.carry_out_tally.Goals as goal

pub apply_tally-numbers-requires : goal.apply_tally-numbers-requires
apply_tally-numbers-requires c =
    let tally = c.requires.tally in
    record {
      plan = tally.plan;
      made = subst (λ (kept : StoreView). IsPlanOf tally.plan kept.rows) (sym c.self.view_is) tally.planned.made;
      is = tally.is;
    }

-- the rows left are a vacuum, by each plan that has the tally
left : (c : After-apply_tally-numbers) (plan : PlanView) → IsPlanOf plan c.self.inside.table
    → c.args.tally.now ≡ tally_of plan
    → IsVacuumOf c.self.inside.table plan.points plan.witnesses c.apply_tally-numbers.new.table
left c plan made is =
    subst (IsVacuumOf c.self.inside.table plan.points plan.witnesses)
    (sym (c.apply_tally-numbers.ensures.rows
    ∙ ap (λ (tally : TallyView). items_where_true tally.keep c.self.inside.table) is)) made.vacuumed

pub invariant_of-self : goal.invariant_of-self
invariant_of-self c =
    let low = rw (← c.self.view_is) at c.requires.low in
    let tally = c.requires.tally in
    let made = subst (λ (kept : StoreView). IsPlanOf tally.plan kept.rows) (sym c.self.view_is) tally.planned.made in
    let fewer = left ((goal.at.invariant_of-self c).After-apply_tally-numbers) tally.plan made tally.is in (
      consistent-fewer _ _ _ _ c.self.invariant.0 fewer.row_set fewer.within,
      sound-vacuum _ _ _ _ _ _ _ c.self.invariant.1 low fewer.within,
    )

pub returns-clause-vacuums : goal.returns-clause-vacuums
returns-clause-vacuums c = λ past plan h plans is.
    let h' = rw (← c.self.view_is) at h in
    let planned = rw (← c.self.view_is) at plans in
    let at = subst (λ xs. ArePoints (stamps_to c.args.at xs) c.args.at plan.points) h'.snapshots planned.points in
    let new = c.apply_tally-numbers.new.table in
    let old = c.self.inside.table in
    let numbers = c.apply_tally-numbers.ensures.numbers ∙ ap numbers_in is in
    let dropped = subst (λ (numbers : Numbers). numbers.dropped + length new ≡ length old) numbers
    c.apply_tally-numbers.ensures.dropped in
    let bytes = subst (λ (numbers : Numbers). numbers.bytes ≡ rows_cost (rows_to numbers.floor new)) numbers
    c.apply_tally-numbers.ensures.bytes in
    let floor-is = floor-in _ past h' in
    let below = rw (← c.self.view_is) at c.requires.low in
    let above = rw (← c.self.view_is) at c.requires.high in
    let low : c.args.at ≤ floor past = omega (arith, below, floor-is) in
    let high : horizon past ≤ c.args.at = (let e = h'.horizon in omega (arith, above, e)) in
    vacuums _ c.args.at past new (report_of plan) h' (vacuum-none past c.args.at low high) at
    (left ((goal.at.returns-clause-vacuums c).After-apply_tally-numbers) plan planned.made is)
    (points-last _ _ _ planned.points) refl dropped bytes

pub returns-clause-within : goal.returns-clause-within
returns-clause-within c =
    rw (← c.self.view_is) (c.args.tally.now.keep, c.apply_tally-numbers.ensures.rows)

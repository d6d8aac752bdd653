-- A plan of the stored rows, or of those of some keys.
use Rattle.std.specs.Prelude.{◌≡◌, ℕ, List}
use Rattle.hlc_snapshot.specs.RegistryView.{stamps_to}
use Rattle.hlc_clock.specs.Points.{ArePoints}
use Rattle.hlc_vacuum_draft.specs.Plan.{PlanView, TallyView, IsPlanOf, tally_of}
use Rattle.hlc_vacuum.specs.declared.part.{PartPlan.PartPlan, PartTally.PartTally}
use Rattle.hlc_vacuum.specs.Part.{IsPartOf, with_plan}
use Rattle.hlc_core.specs.StoreView.{StoreView}

-- the plan was made of the stored rows, at the stamps of the open snapshots up to a stamp and at the stamp itself
pub record IsPlanAt (kept : StoreView) (at : ℕ) (plan : PlanView) : Type 0 where
  pub made : IsPlanOf plan kept.rows
  pub points : ArePoints (stamps_to at kept.snapshots) at plan.points

-- the tally has what such a plan has
pub record IsTallyAt (kept : StoreView) (at : ℕ) (tally : TallyView) : Type 0 where
  pub plan : PlanView
  pub planned : IsPlanAt kept at plan
  pub is : tally ≡ tally_of plan

-- the plan was made of the stored rows of the first keys above one, at most this many, at these stamps
pub record IsPartPlanAt (kept : StoreView) (at : ℕ) (after : List ℕ) (limit : ℕ) (part : PartPlan) : Type 0 where
  pub made : IsPartOf part kept.rows after limit
  pub points : ArePoints (stamps_to at kept.snapshots) at part.plan.points

-- the tally of a part has what such a plan has
pub record IsPartTallyAt (kept : StoreView) (at : ℕ) (after : List ℕ) (limit : ℕ) (part : PartTally) : Type 0 where
  pub plan : PlanView
  pub planned : IsPartPlanAt kept at after limit (with_plan part plan)
  pub is : part.tally ≡ tally_of plan

-- What is planned for a vacuum that an event asks for.
use Rattle.std.specs.Prelude.{◌≡◌, ℕ, ◌≤◌, ◌⊎◌, List, None, Some}
use Rattle.hlc_events.specs.declared.event.CoreEvent.{CoreEvent}
use Rattle.hlc_events.specs.declared.event.CoreEvent.TheVariants.{Vacuum, VacuumTo, VacuumPart}
use Rattle.hlc_vacuum.specs.declared.part.PartPlan.{PartPlan}
use Rattle.hlc_vacuum_draft.specs.Report.{report_of}
use Rattle.hlc_core.specs.declared.{planned.Planned.Planned, reply.CoreReply.CoreReply}
use Rattle.hlc_core.specs.declared.planned.Planned.TheVariants.{Whole, Part, Refused as RefusedFor}
use Rattle.hlc_core.specs.declared.reply.CoreReply.TheVariants.{Vacuumed, VacuumedPart, Refused}
use Rattle.hlc_core.specs.{Checkpoint.floor_in, Past.Step, Past.floor, History.IsReplyTo, History.expected_refusal}
use Rattle.hlc_core.specs.{PlanAt.IsPlanAt, PlanAt.IsPartPlanAt, StoreView.StoreView, StoreView.Represents}

-- the event asks for a vacuum, or part of one, to this stamp: the floor, or its own
abbrev pub IsAsked : StoreView → CoreEvent → ℕ → Type 0
IsAsked kept Vacuum at = (past : List Step) → Represents kept past → at ≡ floor past
IsAsked kept (VacuumTo to) at = at ≡ to
IsAsked kept (VacuumPart to after limit) at = at ≡ to
IsAsked kept _ at = ⊥

-- the event asks for a whole vacuum to this stamp
abbrev pub AsksWhole : StoreView → CoreEvent → ℕ → Type 0
AsksWhole kept event at =
    ((event ≡ Vacuum) × ((past : List Step) → Represents kept past → at ≡ floor past))
    ⊎ (event ≡ VacuumTo at)

-- the event asks for a part to this stamp, and this is its plan
pub record IsPartFor (kept : StoreView) (event : CoreEvent) (at : ℕ) (part : PartPlan) : Type 0 where
  pub after : List ℕ
  pub limit : ℕ
  pub is : event ≡ VacuumPart at after limit
  pub planned : IsPartPlanAt kept at after limit part

-- no refusal of the event is expected, and its stamp is from the horizon to the floor
pub record IsPossible (kept : StoreView) (event : CoreEvent) (at : ℕ) : Type 0 where
  pub low : at ≤ floor_in kept
  pub high : kept.horizon ≤ at
  pub none : (past : List Step) → Represents kept past → expected_refusal past event ≡ None

-- this is planned for the event, and possible; or its refusal is expected
abbrev pub IsPlannedFor : StoreView → CoreEvent → Planned → Type 0
IsPlannedFor kept event (Whole at plan block) =
    IsPossible kept event at × AsksWhole kept event at × IsPlanAt kept at plan
IsPlannedFor kept event (Part at part block) = IsPossible kept event at × IsPartFor kept event at part
IsPlannedFor kept event (RefusedFor fault) =
    IsReplyTo event (Refused fault)
    × ((past : List Step) → Represents kept past → expected_refusal past event ≡ Some fault)

-- the reply to what is planned
abbrev pub reply_of : Planned → CoreReply
reply_of (Whole at plan block) = Vacuumed (report_of plan)
reply_of (Part at part block) = VacuumedPart (report_of part.plan) part.end
reply_of (RefusedFor fault) = Refused fault

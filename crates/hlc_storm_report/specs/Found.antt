-- What a storm's report says: it is that of some legal history of calls, in which each reply was expected.
use Rattle.std.specs.Prelude.{◌≡◌, ◌≢◌, ℕ, ◌+◌, List, ◌∷◌, map, Result, Ok, Err}
use Rattle.std.specs.List.{range_with_len}
use Rattle.hlc_vacuum_draft.specs.declared.report.Report.{Report}
use Rattle.hlc_events.specs.declared.event.CoreEvent.{CoreEvent}
use Rattle.hlc_core.specs.{declared.reply.CoreReply.CoreReply, Stored.IsReport, Listing.IsListing}
use Rattle.hlc_core.specs.Past.{Step, Opened, Closed, count, floor, last_id, writes}
use Rattle.hlc_core.specs.History.{IsLegalHistory, past_of}
use Rattle.hlc_server.specs.declared.{settle.SettleFault.TheVariants.NoTrail, end.WorkEnd.TheVariants.Done}
use Rattle.hlc_words.specs.declared.plan.StormPlan.{StormPlan}
use Rattle.hlc_storm_report.specs.declared.report.StormReport.{StormReport}
use Rattle.hlc_storm_report.specs.declared.report.StormFault.{StormFault, TheVariants.Work, TheVariants.Settle}

-- For a past of a core: the number of accepted items of each node of the plan, the floor, the keys that have a value
-- there, with the newest accepted one, and the rows that a vacuum to the floor keeps, made after the snapshot of the
-- listing is closed.
pub record IsFoundIn (plan : StormPlan) (past : List Step) (report : StormReport) : Type 0 where
  pub accepted : report.accepted.items ≡ map (λ node. count node past) (range_with_len 0 plan.nodes)
  pub floor : report.floor ≡ floor past
  pub pairs : IsListing (writes past) report.floor report.pairs
  pub vacuum : Report
  pub expected : IsReport report.floor (Closed (last_id past + 1) ∷ Opened report.floor ∷ past) vacuum
  pub kept : report.kept ≡ vacuum.kept

-- why a storm may have no report: never because of a worker that was done, and never because there is no trail, since
-- it keeps one
abbrev pub MayRefuse : StormFault → Type 0
MayRefuse fault = (fault ≢ Work Done) × (fault ≢ Settle NoTrail)

-- the possible results of a storm
abbrev pub MayReport : StormPlan → Result StormReport StormFault → Type 0
MayReport plan (Ok report) =
    (nodes : ℕ) × (history : List (CoreEvent × CoreReply))
    × IsLegalHistory nodes history × IsFoundIn plan (past_of nodes history) report
MayReport plan (Err fault) = MayRefuse fault

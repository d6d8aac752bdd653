-- The receipts settle, so the store represents the history in its trail; the report is found in that past.
use Rattle.std.proofs.Common.{◌≡◌, ℕ, List, Result, Ok, Err, IfOk, IfErr}
use Rattle.hlc_events.specs.declared.event.CoreEvent.{CoreEvent}
use Rattle.hlc_core.specs.{declared.reply.CoreReply.CoreReply, Past.Step}
use Rattle.hlc_core.specs.{StoreView.StoreView, StoreView.Represents, History.RepresentsHistory, History.past_of}
use Rattle.hlc_server.specs.declared.{settle.SettleFault.TheVariants.NoTrail, end.WorkEnd.TheVariants.Done}
use Rattle.hlc_words.specs.declared.plan.StormPlan.{StormPlan}
use Rattle.hlc_storm_report.specs.declared.report.{StormReport.StormReport, StormFault.StormFault}
use Rattle.hlc_storm_report.specs.declared.report.StormFault.TheVariants.{Work, Settle, NoMemory}
use Rattle.hlc_storm_report.specs.Found.{IsFoundIn, MayReport}
use Rattle.hlc_storm.proofs.storming.storm_in.Goals as goal

found : (plan : StormPlan) (core : StoreView) (nodes : ℕ) (history : List (CoreEvent × CoreReply))
    → RepresentsHistory nodes core history → (result : Result StormReport StormFault)
    → IfOk result (λ report. (past : List Step) → Represents core past → IsFoundIn plan past report)
    → IfErr result (λ fault. fault ≡ NoMemory) → MayReport plan result
found plan core nodes history h (Ok report) is out_of_memory =
    (nodes, history, h.legal, is (past_of nodes history) h.core)
found plan core nodes history h (Err fault) is out_of_memory =
    let shortage : fault ≡ NoMemory = out_of_memory in
    (λ (done : fault ≡ Work Done). cc, λ (none : fault ≡ Settle NoTrail). cc)

pub returns : goal.returns
returns g c =
    found c.args.plan _ _ _ c.in_ok-settled.ensures.represents c.report_of.result c.report_of.ensures.found
    c.report_of.ensures.memory

-- The reports extend the run.
use Rattle.hlc_routing.proofs.Machines.{reports-go_on}
use Rattle.hlc_routing.proofs.machine.Machine.report_all.Goals as goal

pub returns-in-Ok-report_each-clause-extends : goal.returns-in-Ok-report_each-clause-extends
returns-in-Ok-report_each-clause-extends c = λ layout run m legal h.
    reports-go_on layout run m c.args.self.now c.args.reading c.report_each.new.self
    c.report_each.new.items.items legal h
    c.in-Ok-report_each.ensures.ok.1

-- The clock stamps the event above all that it has seen.
use Rattle.hlc_routing.{specs.Machine.MachineView, proofs.Machines.sent-by_clock}
use Rattle.hlc_routing.proofs.machine.Machine.send.Goals as goal

pub returns-clause-extends : goal.returns-clause-extends
returns-clause-extends c = λ layout run m legal h.
    let h' = rw (← c.self.view_is) at h in
    let view : MachineView = record { last = c.self.inside.clock; nodes = c.self.inside.nodes.items } in
    sent-by_clock layout run m view c.tick.new.self c.args.reading c.tick.result legal h'
    c.tick.ensures.rule c.tick.ensures.ok

-- The clock stamps the event above all that it has seen.
use Rattle.hlc_routing.{specs.Machine.MachineView, proofs.Machines.received-by_clock}
use Rattle.hlc_routing.proofs.machine.Machine.receive.Goals as goal

pub returns-clause-extends : goal.returns-clause-extends
returns-clause-extends c = λ layout run m sender message legal h at.
    let h' = rw (← c.self.view_is) at h in
    let view : MachineView = record { last = c.self.inside.clock; nodes = c.self.inside.nodes.items } in
    received-by_clock layout run m sender message view c.receive.new.self c.args.seen c.args.reading
    c.receive.result legal h' at
    c.receive.ensures.rule c.receive.ensures.ok

-- This many vacuums were made.
use Rattle.std.proofs.Common.{◌≡◌, List, map, replicate}
use Rattle.hlc_events.specs.declared.event.CoreEvent.TheVariants.{Vacuum}
use Rattle.hlc_server.specs.declared.entry.Receipt.{Receipt}
use Rattle.hlc_workers.specs.Paid.{event_of, HasCalled}
use Rattle.hlc_workers.proofs.session.Session.vacuum_often.Given as goal

abbrev pub invariant-loop-time : goal.invariant-loop-time
invariant-loop-time g l =
    (l.self.gate.now ≡ l.fn.self.gate.now) × (more : List Receipt)
    × HasCalled (g.G.Gate.may_answer l.fn.self.gate.now) l.fn.self.work l.self.work more
    × (map event_of more ≡ replicate l._time Vacuum)

-- The keys before this one were read, in turn.
use Rattle.std.proofs.Common.{◌≡◌, List, map, take}
use Rattle.hlc_events.specs.declared.event.CoreEvent.TheVariants.{Read}
use Rattle.hlc_server.specs.declared.entry.Receipt.{Receipt}
use Rattle.hlc_workers.specs.Paid.{event_of, HasCalled}
use Rattle.hlc_workers.proofs.session.Session.read_each.Given as goal

abbrev pub invariant-loop-key : goal.invariant-loop-key
invariant-loop-key g l =
    (l.self.gate.now ≡ l.fn.self.gate.now) × (more : List Receipt)
    × HasCalled (g.G.Gate.may_answer l.fn.self.gate.now) l.fn.self.work l.self.work more
    × (map event_of more ≡ map (Read l.id) (take l.key-index l.keys))

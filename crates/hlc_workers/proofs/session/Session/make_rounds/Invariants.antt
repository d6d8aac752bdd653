-- This many rounds were made, and the pass looked for each.
use Rattle.std.proofs.Common.{◌≡◌, List}
use Rattle.hlc_server.specs.declared.entry.Receipt.{Receipt}
use Rattle.hlc_workers.specs.{Paid.HasCalled, Rounds.HasServed}
use Rattle.hlc_workers.proofs.session.Session.make_rounds.Given as goal

abbrev pub invariant-loop-round : goal.invariant-loop-round
invariant-loop-round g l =
    (l.self.gate.now ≡ l.fn.self.gate.now) × (more : List Receipt)
    × HasCalled (g.G.Gate.may_answer l.fn.self.gate.now) l.fn.self.work l.self.work more
    × HasServed l.keys l._round l.fn.pass l.pass more

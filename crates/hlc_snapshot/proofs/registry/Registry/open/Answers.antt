-- The snapshot of the next id is pushed, so the map after it is that of an opening.
use Rattle.std.proofs.{Common.◌∙◌, lemmas.Bool.cond-true}
use Rattle.hlc_snapshot.proofs.RegisterLemmas.{next_id-fresh, opened-map}
use Rattle.hlc_snapshot.proofs.registry.Registry.open.Goals as goal

pub returns-clause-fresh : goal.returns-clause-fresh
returns-clause-fresh c = rw (← c.self.view_is) (next_id-fresh _ c.self.invariant)

pub returns-clause-map : goal.returns-clause-map
returns-clause-map c = λ other.
    rw (← c.self.view_is, c.push.ensures.items ∙ cond-true _ _ _ c.if-is_err.ensures.negation)
    (opened-map _ c.args.stamp other c.self.invariant)

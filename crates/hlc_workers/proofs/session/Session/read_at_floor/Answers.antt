-- An opening at the floor, and then the reads: the receipts of the reads come after that of the opening.
use Rattle.std.proofs.{Common.[], Common.◌∷◌, Common.refl, lemmas.Result.err_from_is_err_and}
use Rattle.hlc_events.specs.declared.event.CoreEvent.TheVariants.{OpenFloor}
use Rattle.hlc_workers.specs.{declared.session.Opening.TheVariants.Opened as opened, Rounds.GoesOn, Rounds.AtFloor}
use Rattle.hlc_workers.proofs.Works.{called-none, missing, opening_then}
use Rattle.hlc_workers.proofs.session.Session.read_at_floor.Goals as goal

pub returns-in_err-id-clause-made : goal.returns-in_err-id-clause-made
returns-in_err-id-clause-made g c =
    let p = err_from_is_err_and c.from_residual.result c.from_residual.ensures.1 in
    let none = c.in_err-id.ensures.made in
    rw (p.1, p.2) ([], called-none _ _ _ none.0, (none.1, (missing OpenFloor ∷ [], (refl, refl))))

pub returns-in-Opened-clause-made : goal.returns-in-Opened-clause-made
returns-in-Opened-clause-made g c =
    opening_then g.G.Gate.may_answer _ _ (GoesOn c.args.keys.now) (AtFloor c.args.keys.now) OpenFloor
    (opened c.in-Opened.id) _ _ _ c.read_and_close.result c.call.ensures.gate (λ r more has. has)
    (rw c.in-Opened.is at c.in_ok-id.ensures.made) c.read_and_close.ensures.made

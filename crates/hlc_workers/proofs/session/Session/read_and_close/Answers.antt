-- The close comes after the reads.
use Rattle.std.proofs.Common.{[], ◌∷◌, ◌++◌, ◌∙◌, ap, map}
use Rattle.std.proofs.lemmas.{List.append-nil, List.map-append, Result.err_from_is_err_and}
use Rattle.hlc_events.specs.declared.event.CoreEvent.TheVariants.{Read}
use Rattle.hlc_workers.specs.Paid.{event_of}
use Rattle.hlc_workers.proofs.Works.{called_on, called_stay, stopped_on, close_missing}
use Rattle.hlc_workers.proofs.session.Session.read_and_close.Goals as goal

pub returns-clause-made : goal.returns-clause-made
returns-clause-made g c =
    let e = c.in_ok-read_each.ensures.made in
    let t = c.in_ok-call.ensures.made in (
      e.0 ++ t.0 ∷ [],
      called_on g.G.Gate.may_answer _ _ _ _ _ e.0 (t.0 ∷ []) c.read_each.ensures.gate e.1 t.1,
      map-append event_of e.0 (t.0 ∷ [])
          ∙ ap (λ l. l ++ event_of t.0 ∷ []) e.2
          ∙ ap (λ event. map (Read c.args.id) c.args.keys.now ++ event ∷ []) t.2.0,
    )

pub returns-in_err-read_each-clause-made : goal.returns-in_err-read_each-clause-made
returns-in_err-read_each-clause-made g c =
    let p = err_from_is_err_and c.from_residual.result c.from_residual.ensures.1 in
    let e = c.in_err-read_each.ensures.made in
    rw (p.1, p.2) (e.0, e.1, (e.2.0, close_missing c.args.keys.now c.args.id e.0 e.2.1.0 e.2.1.1))

pub returns-in_err-call-clause-made : goal.returns-in_err-call-clause-made
returns-in_err-call-clause-made g c =
    let back = c.from_residual-in_err-call in
    let p = err_from_is_err_and back.result back.ensures.1 in
    let e = c.in_ok-read_each.ensures.made in
    let none = c.in_err-call.ensures.made in
    rw (p.1, p.2) (
      e.0,
      called_stay g.G.Gate.may_answer _ _ _ _ _ e.0 c.read_each.ensures.gate e.1 none.0,
      (
        stopped_on g.G.Gate.may_answer _ _ _ _ c.read_each.ensures.gate none.1,
        close_missing c.args.keys.now c.args.id e.0 [] (ap (map event_of) (append-nil e.0) ∙ e.2),
      ),
    )

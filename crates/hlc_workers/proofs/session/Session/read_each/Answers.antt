-- One more key was read: its receipt comes after the earlier ones.
use Rattle.std.proofs.{Common.[], Common.◌∷◌, Common.◌++◌, Common.◌∙◌, Common.rules, lemmas.Result.err_from_is_err_and}
use Rattle.hlc_workers.proofs.Works.{called_on, called_stay, stopped_on, read_more, keys_missing}
use Rattle.hlc_workers.proofs.session.Session.read_each.Goals as goal

pub loop-key-preserved : goal.loop-key-preserved
loop-key-preserved g c =
    let t = c.in_ok-call.ensures.made in
    let v = c.loop-key.invariant in (
      c.call.ensures.gate ∙ v.0,
      v.1 ++ t.0 ∷ [],
      called_on g.G.Gate.may_answer _ _ _ _ _ v.1 (t.0 ∷ []) v.0 v.2 t.1,
      read_more c.args.keys.now c.args.id c.loop-key.key-index c.key-item.result c.in-Ok.key v.1 t.0
          c.loop-key-test.true c.key-item.is c.in-Ok.ensures.cases t.2.0 v.3,
    )

pub returns-in_err-call-clause-made : goal.returns-in_err-call-clause-made
returns-in_err-call-clause-made g c =
    let p = err_from_is_err_and c.from_residual.result c.from_residual.ensures.1 in
    let v = c.loop-key.invariant in
    let none = c.in_err-call.ensures.made in
    rw (p.1, p.2) (
      v.1,
      called_stay g.G.Gate.may_answer _ _ _ _ _ v.1 v.0 v.2 none.0,
      (
        stopped_on g.G.Gate.may_answer _ _ _ _ v.0 none.1,
        keys_missing c.args.keys.now c.args.id c.loop-key.key-index v.1 v.3,
      ),
    )

pub returns-in_default-clause-made : goal.returns-in_default-clause-made
returns-in_default-clause-made g c =
    let v = c.loop-key.invariant in
    (v.1, v.2, (search rules, keys_missing c.args.keys.now c.args.id c.loop-key.key-index v.1 v.3))

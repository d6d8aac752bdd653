-- One more round: its look is the pass's, and its receipts come after the earlier ones.
use Rattle.std.proofs.Common.{[], ◌∷◌, ◌++◌, ◌∙◌, refl, sym, ap, subst, arith, length-append, append_assoc}
use Rattle.std.proofs.lemmas.Result.{err_from_is_err_and}
use Rattle.hlc_workers.proofs.Works.{called-first, called_on, stopped_on, rounds-append}
use Rattle.hlc_workers.{specs.Rounds.AreRounds, proofs.Looked.looked-none, proofs.Looked.looked_more}
use Rattle.hlc_workers.proofs.session.Session.make_rounds.Goals as goal

pub loop-round-init : goal.loop-round-init
loop-round-init g c = (refl, [], called-first _ _, ([], refl, refl, looked-none c.args.pass.now))

pub returns-in_err-make_round-clause-made : goal.returns-in_err-make_round-clause-made
returns-in_err-make_round-clause-made g c =
    let p = err_from_is_err_and c.from_residual.result c.from_residual.ensures.1 in
    let v = c.loop-round.invariant in
    let e = c.in_err-make_round.ensures.made in
    let f = c.floor-stamp.ensures in
    let s = v.3 in
    rw (p.1, p.2) (
      v.1 ++ e.0,
      called_on g.G.Gate.may_answer _ _ _ _ _ v.1 e.0 v.0 v.2 e.1,
      (
        stopped_on g.G.Gate.may_answer _ _ _ _ v.0 e.2.0,
        (
          s.0 ++ c.floor-stamp.result ∷ [],
          e.2.1.0,
          omega (arith, s.1, c.loop-round-test.true, length-append s.0 (c.floor-stamp.result ∷ [])),
          subst (AreRounds c.args.keys.now (s.0 ++ c.floor-stamp.result ∷ [])) (sym (append_assoc v.1 e.0 e.2.1.0))
              (rounds-append c.args.keys.now s.0 c.floor-stamp.result v.1 (e.0 ++ e.2.1.0) s.2 e.2.1.1),
          looked_more c.args.pass.now c.loop-round.pass c.floor-stamp.new.pass c.args.board.now.words s.0
              c.floor-stamp.result (ap (λ b. b.words) (s.3.board ∙ c.requires)) s.3 f.board f.least f.finds f.rises,
        ),
      ),
    )

pub loop-round-preserved : goal.loop-round-preserved
loop-round-preserved g c =
    let v = c.loop-round.invariant in
    let e = c.in_ok-make_round.ensures.made in
    let f = c.floor-stamp.ensures in
    let s = v.3 in (
      c.make_round.ensures.gate ∙ v.0,
      v.1 ++ e.0,
      called_on g.G.Gate.may_answer _ _ _ _ _ v.1 e.0 v.0 v.2 e.1,
      (
        s.0 ++ c.floor-stamp.result ∷ [],
        omega (arith, s.1, length-append s.0 (c.floor-stamp.result ∷ [])),
        rounds-append c.args.keys.now s.0 c.floor-stamp.result v.1 e.0 s.2 e.2,
        looked_more c.args.pass.now c.loop-round.pass c.floor-stamp.new.pass c.args.board.now.words s.0
            c.floor-stamp.result
            (ap (λ b. b.words) (s.3.board ∙ c.requires)) s.3 f.board f.least f.finds f.rises,
      ),
    )

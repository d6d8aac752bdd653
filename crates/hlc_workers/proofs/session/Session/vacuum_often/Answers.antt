-- One more vacuum was made: its receipt comes after the earlier ones.
use Rattle.std.proofs.Common.{[], ◌∷◌, ◌++◌, ◌∙◌}
use Rattle.hlc_workers.proofs.Works.{called_on, vacuums_more}
use Rattle.hlc_workers.proofs.session.Session.vacuum_often.Goals as goal

pub loop-time-preserved : goal.loop-time-preserved
loop-time-preserved g c =
    let t = c.in_ok-vacuum.ensures.made in
    let v = c.loop-time.invariant in (
      c.vacuum.ensures.gate ∙ v.0,
      v.1 ++ t.0 ∷ [],
      called_on g.G.Gate.may_answer _ _ _ _ _ v.1 (t.0 ∷ []) v.0 v.2 t.1,
      vacuums_more c.loop-time._time v.1 t.0 t.2 v.3,
    )

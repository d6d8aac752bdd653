-- At the end each stamp is below the gap or at or above its end.
use Rattle.std.proofs.{Common.◌<◌, Common.◌≤◌, Common.◌⊎◌, Common.arith, lemmas.List.Elements.All-from_get_or}
use Rattle.hlc_vacuum_draft.proofs.gaps.least_from.Goals as goal

pub returns : goal.returns
returns c = All-from_get_or (λ stamp. (stamp < c.args.from) ⊎ (c.loop-stamp.least ≤ stamp)) c.args.stamps.now 0
    (λ k lt. c.loop-stamp.invariant k (omega arith))

-- One more stamp.
use Rattle.std.proofs.Common.{◌∙◌, ap, sym, max, get_or}
use Rattle.hlc_lanes.{specs.Greatest.within, proofs.Lanes.greatest_one}
use Rattle.hlc_lanes.proofs.newest.greatest_rest.Goals as goal

pub loop-stamp-preserved : goal.loop-stamp-preserved
loop-stamp-preserved c =
    c.max-best.ensures ∙ ap (λ m. max c.loop-stamp.best m) c.within.ensures ∙ ap
    (λ m. max m (within c.args.bound (get_or c.args.rest.now c.loop-stamp.stamp-index 0))) c.loop-stamp.invariant
    ∙ sym (greatest_one (within c.args.bound) c.args.rest.now c.loop-stamp.stamp-index c.loop-stamp-test.true)

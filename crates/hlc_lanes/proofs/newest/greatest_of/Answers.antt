-- One more value.
use Rattle.std.proofs.Common.{◌∙◌, ap, sym, max, get_or}
use Rattle.hlc_lanes.proofs.Lanes.{greatest_next}
use Rattle.hlc_lanes.proofs.newest.greatest_of.Goals as goal

pub loop-value-preserved : goal.loop-value-preserved
loop-value-preserved c = c.max-best.ensures
    ∙ ap (λ m. max m (get_or c.args.values.now c.loop-value.value-index 0)) c.loop-value.invariant
    ∙ sym (greatest_next c.args.values.now c.loop-value.value-index c.loop-value-test.true)

-- One more pair is counted.
use Rattle.std.proofs.Common.{◌+◌, ap, length, List, ℕ, arith}
use Rattle.hlc_range_calls.proofs.scan.number_of.Goals as goal

pub loop-preserved : goal.loop-preserved
loop-preserved c =
    let long = ap (λ (ps : List (List ℕ × List ℕ)). length ps) c.in-Some.ensures.steps in (
      c.loop.invariant.0 + 1,
      omega (arith, long, c.loop.invariant.1),
      omega (arith, c.saturating_add-count.ensures, c.loop.invariant.2),
    )

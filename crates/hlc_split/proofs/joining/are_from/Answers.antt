-- All were checked.
use Rattle.std.proofs.Common.{arith, refl}
use Rattle.hlc_split.proofs.joining.are_from.Goals as goal

pub returns : goal.returns
returns c = (λ _ k d lt. c.loop-row.invariant k d (omega arith), λ _. refl)

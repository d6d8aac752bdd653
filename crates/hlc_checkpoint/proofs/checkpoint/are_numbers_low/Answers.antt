-- All were checked.
use Rattle.std.proofs.Common.{arith, refl}
use Rattle.hlc_checkpoint.proofs.checkpoint.are_numbers_low.Goals as goal

pub returns : goal.returns
returns c = (λ _ k d lt. c.loop-link.invariant k d (omega arith), λ _. refl)

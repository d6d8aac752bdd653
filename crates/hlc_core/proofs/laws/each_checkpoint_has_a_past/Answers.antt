-- A checkpoint represents the past that begins with it.
use Rattle.hlc_core.proofs.StartingLemmas.{begins}
use Rattle.hlc_core.proofs.laws.each_checkpoint_has_a_past.Goals as goal

pub returns : goal.returns
returns c = begins

-- The least head does not change when another is added that is not below it.
use Rattle.hlc_core.proofs.PastLemmas.{floor-stays}
use Rattle.hlc_core.proofs.laws.joins_keep_the_floor.Goals as goal

pub returns : goal.returns
returns c = λ past node start n legal within here. floor-stays past node start n legal.1 legal.2 within here

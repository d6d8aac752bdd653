-- The floor is not below itself.
use Rattle.hlc_core.proofs.PastLemmas.{floor-at_floor, join-at_floor}
use Rattle.hlc_core.proofs.laws.a_join_is_one_at_the_floor.Goals as goal

pub returns-clause-refusal : goal.returns-clause-refusal
returns-clause-refusal c = join-at_floor

pub returns-clause-floor : goal.returns-clause-floor
returns-clause-floor c = floor-at_floor

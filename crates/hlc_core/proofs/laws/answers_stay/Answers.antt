-- What is accepted later lies above the floor, and an open snapshot keeps its stamp.
use Rattle.hlc_core.proofs.StayLemmas.{answers-stay, snapshots-stay}
use Rattle.hlc_core.proofs.laws.answers_stay.Goals as goal

pub returns-clause-floor : goal.returns-clause-floor
returns-clause-floor c = answers-stay

pub returns-clause-snapshots : goal.returns-clause-snapshots
returns-clause-snapshots c = snapshots-stay

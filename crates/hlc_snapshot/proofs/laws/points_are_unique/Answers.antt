-- Two ascending lists of the same numbers are equal.
use Rattle.hlc_clock.proofs.PointLemmas.{ArePoints-unique}
use Rattle.hlc_snapshot.proofs.laws.points_are_unique.Goals as goal

pub returns : goal.returns
returns c = ArePoints-unique

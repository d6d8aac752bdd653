-- A snapshot opens at or below the floor, which never falls.
use Rattle.hlc_core.proofs.PastLemmas.{open-low}
use Rattle.hlc_core.proofs.laws.open_snapshots_are_at_most_the_floor.Goals as goal

pub returns : goal.returns
returns c = open-low

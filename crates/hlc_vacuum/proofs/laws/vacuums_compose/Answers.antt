-- The stored rows represented all, so rows alike to them at the points are alike to all, and their changes are those of
-- all.
use Rattle.hlc_vacuum.proofs.RepresentingLemmas.{vacuums_compose}
use Rattle.hlc_vacuum.proofs.laws.vacuums_compose.Goals as goal

pub returns : goal.returns
returns c = vacuums_compose

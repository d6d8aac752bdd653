-- Sorted rows are the same rows, so they have the same changes.
use Rattle.hlc_vacuum.proofs.RepresentingLemmas.{vacuums_are_certified}
use Rattle.hlc_vacuum.proofs.laws.vacuums_are_certified.Goals as goal

pub returns : goal.returns
returns c = vacuums_are_certified

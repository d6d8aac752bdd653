-- The rows kept at or below the last point are as many as the changes, and answer alike at the points.
use Rattle.hlc_vacuum_draft.proofs.VacuumLemmas.{vacuums_keep_fewest}
use Rattle.hlc_vacuum.proofs.laws.vacuums_keep_fewest.Goals as goal

pub returns : goal.returns
returns c = vacuums_keep_fewest

-- The rows kept at or below the last point are as many as the changes, and answer alike at the points.
use Rattle.hlc_vacuum_draft.proofs.VacuumLemmas.{vacuums_keep_cheapest, vacuums_cost_changes}
use Rattle.hlc_vacuum.proofs.laws.vacuums_keep_cheapest.Goals as goal

pub returns-clause-cheapest : goal.returns-clause-cheapest
returns-clause-cheapest c = vacuums_keep_cheapest

pub returns-clause-cost : goal.returns-clause-cost
returns-clause-cost c = vacuums_cost_changes

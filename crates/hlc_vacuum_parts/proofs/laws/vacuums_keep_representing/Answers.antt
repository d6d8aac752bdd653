-- The remaining stored rows are a vacuum of all accepted ones.
use Rattle.hlc_core.proofs.VacuumLemmas.{vacuums}
use Rattle.hlc_vacuum_parts.proofs.laws.vacuums_keep_representing.Goals as goal

pub returns : goal.returns
returns c = vacuums

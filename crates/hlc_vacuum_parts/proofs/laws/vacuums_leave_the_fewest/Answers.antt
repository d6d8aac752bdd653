-- The report counts the remaining rows.
use Rattle.hlc_core.proofs.VacuumLemmas.{leaves-fewest}
use Rattle.hlc_vacuum_parts.proofs.laws.vacuums_leave_the_fewest.Goals as goal

pub returns : goal.returns
returns c = leaves-fewest

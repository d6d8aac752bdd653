-- The remaining stored rows of these keys are a vacuum of all accepted ones of these keys.
use Rattle.hlc_core.proofs.PartVacuumLemmas.{vacuums_keys}
use Rattle.hlc_vacuum_parts.proofs.laws.parts_keep_representing.Goals as goal

pub returns : goal.returns
returns c = vacuums_keys

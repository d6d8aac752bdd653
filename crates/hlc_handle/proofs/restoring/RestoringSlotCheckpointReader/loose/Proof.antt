-- `loose` returns the box at the pointer.
use Rattle.hlc_handle.proofs.{Slots.loose_met, Handles.restoring}
use Rattle.hlc_handle.specs.contracts.restoring.RestoringSlotCheckpointReader.loose.Key.{name as #self}
use Rattle.hlc_handle.proofs.restoring.RestoringSlotCheckpointReader.loose.Statement.{statement}
use Rattle.hlc_saved.specs.contracts.reader.CheckpointReader as reader
use Rattle.hlc_handle.proofs.restoring.RestoringSlotCheckpointReader.loose.Code as code

pub loose_spec : {M : Type 1} → statement M
loose_spec 𝓤 𝓛 𝓜 𝓡 wired = loose_met reader.the_row restoring 𝓤 𝓛 𝓜 𝓡 #self (code.unfolded 𝓤 𝓛.H 𝓜 𝓡 wired)

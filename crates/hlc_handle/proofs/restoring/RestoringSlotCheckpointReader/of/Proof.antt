-- `of` stores the box's pointer.
use Rattle.hlc_handle.proofs.{Slots.of_met, Handles.restoring}
use Rattle.hlc_handle.specs.contracts.restoring.RestoringSlotCheckpointReader.of.Key.{name as #self}
use Rattle.hlc_handle.proofs.restoring.RestoringSlotCheckpointReader.of.Statement.{statement}
use Rattle.hlc_saved.specs.contracts.reader.CheckpointReader as reader
use Rattle.hlc_handle.proofs.restoring.RestoringSlotCheckpointReader.of.Code as code

pub of_spec : {M : Type 1} → statement M
of_spec 𝓤 𝓛 𝓜 𝓡 wired = of_met reader.the_row restoring 𝓤 𝓛 𝓜 𝓡 #self (code.unfolded 𝓤 𝓛.H 𝓜 𝓡 wired)

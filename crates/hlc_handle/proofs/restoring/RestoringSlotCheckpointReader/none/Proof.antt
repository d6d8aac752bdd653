-- `none` has nothing, at null.
use Rattle.hlc_handle.proofs.{Slots.none_met, Handles.restoring}
use Rattle.hlc_handle.specs.contracts.restoring.RestoringSlotCheckpointReader.none.Key.{name as #self}
use Rattle.hlc_handle.proofs.restoring.RestoringSlotCheckpointReader.none.Statement.{statement}
use Rattle.hlc_saved.specs.contracts.reader.CheckpointReader as reader
use Rattle.hlc_handle.proofs.restoring.RestoringSlotCheckpointReader.none.Code as code

pub none_spec : {M : Type 1} → statement M
none_spec 𝓤 𝓛 𝓜 𝓡 wired = none_met reader.the_row restoring 𝓤 𝓛 𝓜 𝓡 #self (code.unfolded 𝓤 𝓛.H 𝓜 𝓡 wired)

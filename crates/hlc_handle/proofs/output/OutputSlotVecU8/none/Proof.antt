-- `none` has nothing, at null.
use Rattle.hlc_handle.specs.{Rows.bytes_row, contracts.output.OutputSlotVecU8.none.Key.name as #self}
use Rattle.hlc_handle.proofs.{Slots.none_met, Handles.output, output.OutputSlotVecU8.none.Statement.statement}
use Rattle.hlc_handle.proofs.output.OutputSlotVecU8.none.Code as code

pub none_spec : {M : Type 1} → statement M
none_spec 𝓤 𝓛 𝓜 𝓡 wired = none_met bytes_row output 𝓤 𝓛 𝓜 𝓡 #self (code.unfolded 𝓤 𝓛.H 𝓜 𝓡 wired)

-- `loose` returns the box at the pointer.
use Rattle.hlc_handle.specs.{Rows.bytes_row, contracts.output.OutputSlotVecU8.loose.Key.name as #self}
use Rattle.hlc_handle.proofs.{Slots.loose_met, Handles.output, output.OutputSlotVecU8.loose.Statement.statement}
use Rattle.hlc_handle.proofs.output.OutputSlotVecU8.loose.Code as code

pub loose_spec : {M : Type 1} → statement M
loose_spec 𝓤 𝓛 𝓜 𝓡 wired = loose_met bytes_row output 𝓤 𝓛 𝓜 𝓡 #self (code.unfolded 𝓤 𝓛.H 𝓜 𝓡 wired)

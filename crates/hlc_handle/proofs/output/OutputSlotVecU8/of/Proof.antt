-- `of` stores the box's pointer.
use Rattle.hlc_handle.specs.{Rows.bytes_row, contracts.output.OutputSlotVecU8.of.Key.name as #self}
use Rattle.hlc_handle.proofs.{Slots.of_met, Handles.output, output.OutputSlotVecU8.of.Statement.statement}
use Rattle.hlc_handle.proofs.output.OutputSlotVecU8.of.Code as code

pub of_spec : {M : Type 1} → statement M
of_spec 𝓤 𝓛 𝓜 𝓡 wired = of_met bytes_row output 𝓤 𝓛 𝓜 𝓡 #self (code.unfolded 𝓤 𝓛.H 𝓜 𝓡 wired)

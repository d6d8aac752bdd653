-- `loose` returns the box at the pointer.
use Rattle.hlc_handle.proofs.{Slots.loose_met, Handles.saving, saving.SavingSlotSaver.loose.Statement.statement}
use Rattle.hlc_handle.specs.contracts.saving.SavingSlotSaver.loose.Key.{name as #self}
use Rattle.hlc_saved.specs.contracts.savings.Saver as saver
use Rattle.hlc_handle.proofs.saving.SavingSlotSaver.loose.Code as code

pub loose_spec : {M : Type 1} → statement M
loose_spec 𝓤 𝓛 𝓜 𝓡 wired = loose_met saver.the_row saving 𝓤 𝓛 𝓜 𝓡 #self (code.unfolded 𝓤 𝓛.H 𝓜 𝓡 wired)

-- `of` stores the box's pointer.
use Rattle.hlc_handle.proofs.{Slots.of_met, Handles.saving, saving.SavingSlotSaver.of.Statement.statement}
use Rattle.hlc_handle.specs.contracts.saving.SavingSlotSaver.of.Key.{name as #self}
use Rattle.hlc_saved.specs.contracts.savings.Saver as saver
use Rattle.hlc_handle.proofs.saving.SavingSlotSaver.of.Code as code

pub of_spec : {M : Type 1} → statement M
of_spec 𝓤 𝓛 𝓜 𝓡 wired = of_met saver.the_row saving 𝓤 𝓛 𝓜 𝓡 #self (code.unfolded 𝓤 𝓛.H 𝓜 𝓡 wired)

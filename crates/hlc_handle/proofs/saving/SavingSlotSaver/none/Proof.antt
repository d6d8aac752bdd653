-- `none` has nothing, at null.
use Rattle.hlc_handle.proofs.{Slots.none_met, Handles.saving, saving.SavingSlotSaver.none.Statement.statement}
use Rattle.hlc_handle.specs.contracts.saving.SavingSlotSaver.none.Key.{name as #self}
use Rattle.hlc_saved.specs.contracts.savings.Saver as saver
use Rattle.hlc_handle.proofs.saving.SavingSlotSaver.none.Code as code

pub none_spec : {M : Type 1} → statement M
none_spec 𝓤 𝓛 𝓜 𝓡 wired = none_met saver.the_row saving 𝓤 𝓛 𝓜 𝓡 #self (code.unfolded 𝓤 𝓛.H 𝓜 𝓡 wired)

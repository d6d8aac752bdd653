-- `of` stores the box's pointer.
use Rattle.hlc_handle.proofs.{Slots.of_met, Handles.store, store.StoreSlotCore.of.Statement.statement}
use Rattle.hlc_handle.specs.contracts.store.StoreSlotCore.of.Key.{name as #self}
use Rattle.hlc_core.specs.contracts.store.Core as core
use Rattle.hlc_handle.proofs.store.StoreSlotCore.of.Code as code

pub of_spec : {M : Type 1} → statement M
of_spec 𝓤 𝓛 𝓜 𝓡 wired = of_met core.the_row store 𝓤 𝓛 𝓜 𝓡 #self (code.unfolded 𝓤 𝓛.H 𝓜 𝓡 wired)

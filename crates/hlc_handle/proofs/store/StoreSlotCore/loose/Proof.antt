-- `loose` returns the box at the pointer.
use Rattle.hlc_handle.proofs.{Slots.loose_met, Handles.store, store.StoreSlotCore.loose.Statement.statement}
use Rattle.hlc_handle.specs.contracts.store.StoreSlotCore.loose.Key.{name as #self}
use Rattle.hlc_core.specs.contracts.store.Core as core
use Rattle.hlc_handle.proofs.store.StoreSlotCore.loose.Code as code

pub loose_spec : {M : Type 1} → statement M
loose_spec 𝓤 𝓛 𝓜 𝓡 wired = loose_met core.the_row store 𝓤 𝓛 𝓜 𝓡 #self (code.unfolded 𝓤 𝓛.H 𝓜 𝓡 wired)

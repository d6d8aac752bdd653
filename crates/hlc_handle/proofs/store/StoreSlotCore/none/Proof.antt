-- `none` has nothing, at null.
use Rattle.hlc_handle.proofs.{Slots.none_met, Handles.store, store.StoreSlotCore.none.Statement.statement}
use Rattle.hlc_handle.specs.contracts.store.StoreSlotCore.none.Key.{name as #self}
use Rattle.hlc_core.specs.contracts.store.Core as core
use Rattle.hlc_handle.proofs.store.StoreSlotCore.none.Code as code

pub none_spec : {M : Type 1} → statement M
none_spec 𝓤 𝓛 𝓜 𝓡 wired = none_met core.the_row store 𝓤 𝓛 𝓜 𝓡 #self (code.unfolded 𝓤 𝓛.H 𝓜 𝓡 wired)

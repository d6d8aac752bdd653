-- Stores with one key space, and the run that they represent.
use Rattle.std.specs.Prelude.{◌≡◌, ◌≢◌, ℕ, ◌<◌, ◌≤◌, ◌+◌, List, ◌∷◌, length, Some, None, slice_get, ⊤, Result, Ok, Err}
use Rattle.hlc_node.specs.declared.item.{Body.Body, Item.Item}
use Rattle.hlc_node.specs.declared.item.Body.TheVariants.{Write, Batch, Report, Retire}
use Rattle.hlc_core.specs.Past.{Step, Took, Opened, Closed, item_refusal, open_refusal, last_id, stamp_of}
use Rattle.hlc_core.specs.StoreView.{StoreView, Represents as CoreRepresents}
use Rattle.hlc_core.specs.{Checkpoint.floor_in, Calls.IsRefusal, Calls.IsWrite}
use Rattle.hlc_ranges.specs.Run.{Layout, Turn, Stepped, past_of, IsLegal}
use Rattle.hlc_events.specs.declared.fault.CoreFault.TheVariants.{NoSnapshot}
use Rattle.hlc_routing.specs.Division.{DivisionView, store_of, AreOfStore}
use Rattle.hlc_routing.specs.declared.fault.RangesFault.{RangesFault}
use Rattle.hlc_routing.specs.declared.fault.RangesFault.TheVariants.{NoStore, WrongStore, Store}

-- the division, and what each store keeps
pub record RangesView : Type 0 where
  pub division : DivisionView
  pub stores : List StoreView

-- The stores represent the run: it is legal; each store represents its past, which begins as the layout says; and the
-- layout's store of each key is the division's.
pub record Represents (layout : Layout) (kept : RangesView) (run : List Turn) : Type 0 where
  pub legal : IsLegal layout run
  pub many : length kept.stores ≡ layout.stores
  pub pasts : (s : ℕ) (store : StoreView) → slice_get kept.stores s ≡ Some store
      → CoreRepresents store (past_of layout s run)
  pub routed : (key : List ℕ) → layout.store_of key ≡ store_of kept.division key

-- the stamp is the floor of one of these stores
abbrev pub IsFloorOfOne : List StoreView → ℕ → Type 0
IsFloorOfOne stores stamp =
    (s : ℕ) × (store : StoreView) × (slice_get stores s ≡ Some store) × (stamp ≡ floor_in store)

-- the least floor of some stores
pub record IsLeastFloor (stores : List StoreView) (stamp : ℕ) : Type 0 where
  pub low : (s : ℕ) (store : StoreView) → slice_get stores s ≡ Some store → stamp ≤ floor_in store
  pub one : IsFloorOfOne stores stamp

-- the body is no write, or one of a key of this store, or a batch of writes of its keys alone
abbrev pub IsOfStore : DivisionView → ℕ → Body → Type 0
IsOfStore division s (Write key value) = store_of division key ≡ s
IsOfStore division s (Batch writes) = AreOfStore division s writes
IsOfStore division s Report = ⊤
IsOfStore division s Retire = ⊤

-- why an item is refused: no such store; a write of another store's key, alone or in a batch; or that store refuses it
abbrev pub IsRefusedFor : RangesView → ℕ → Item → RangesFault → Type 0
IsRefusedFor kept s item NoStore = length kept.stores ≤ s
IsRefusedFor kept s item WrongStore = (s < length kept.stores) × (IsOfStore kept.division s item.body → ⊥)
IsRefusedFor kept s item (Store fault) =
    (s < length kept.stores) × IsOfStore kept.division s item.body
    × ((store : StoreView) (past : List Step) → slice_get kept.stores s ≡ Some store → CoreRepresents store past
    → IsRefusal (item_refusal past item) (IsWrite item.body) fault)

-- the store took the item, whoever issued it, and the others stay
pub record HasTaken (old new : RangesView) (s : ℕ) (item : Item) : Type 0 where
  pub took : (store made : StoreView) (past : List Step) → slice_get old.stores s ≡ Some store
      → slice_get new.stores s ≡ Some made → CoreRepresents store past
      → (item_refusal past item ≡ None) × CoreRepresents made (Took item ∷ past)
  pub others : (other : ℕ) → other ≢ s → slice_get new.stores other ≡ slice_get old.stores other

-- a snapshot of one store was opened, with an id one above the last id there, or refused
abbrev pub OpensIn : Layout → RangesView → RangesView → ℕ → ℕ → List Turn → Result ℕ RangesFault → Type 0
OpensIn layout old new s stamp run (Ok id) =
    (open_refusal (past_of layout s run) stamp ≡ None) × (id ≡ last_id (past_of layout s run) + 1)
    × Represents layout new (Stepped s (Opened stamp) ∷ run)
OpensIn layout old new s stamp run (Err NoStore) = length old.stores ≤ s
OpensIn layout old new s stamp run (Err WrongStore) = ⊥
OpensIn layout old new s stamp run (Err (Store fault)) =
    (s < length old.stores) × IsRefusal (open_refusal (past_of layout s run) stamp) ⊤ fault

-- the snapshot of one store was closed, and this was its stamp; or there was none with this id
abbrev pub ClosesIn : Layout → RangesView → RangesView → ℕ → ℕ → List Turn → Result ℕ RangesFault → Type 0
ClosesIn layout old new s id run (Ok stamp) =
    (stamp_of id (past_of layout s run) ≡ Some stamp) × Represents layout new (Stepped s (Closed id) ∷ run)
ClosesIn layout old new s id run (Err NoStore) = length old.stores ≤ s
ClosesIn layout old new s id run (Err WrongStore) = ⊥
ClosesIn layout old new s id run (Err (Store fault)) =
    (s < length old.stores) × (stamp_of id (past_of layout s run) ≡ None) × (fault ≡ NoSnapshot)

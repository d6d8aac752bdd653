-- Runs one after another: between them stores are divided, joined or moved, and new stores take over the keys.
use Rattle.std.specs.Prelude.{◌≡◌, ℕ, ◌<◌, ◌≤◌, ◌⊎◌, Bool, true, List, [], ◌∷◌, ◌++◌, Contains}
use Rattle.hlc_rows.specs.declared.row.Row.{Row}
use Rattle.hlc_node.specs.declared.item.Item.{Item}
use Rattle.hlc_snapshot.specs.RegistryView.{stamps}
use Rattle.hlc_core.specs.Past.{Step, Began, floor, horizon, open_snapshots}
use Rattle.hlc_core.specs.{Parts.rows_of_keys, Checkpoint.floor_in, StoreView.StoreView, StoreView.Represents}
use Rattle.hlc_ranges.specs.Run.{Layout, Turn, past_of, issued, issued_since, IsLegal}
use Rattle.hlc_ranges.specs.Cut.{IsAccepted}

-- a stamp at which a past can be read: the horizon is not above it, or a snapshot is open there
abbrev pub IsReadable : List Step → ℕ → Type 0
IsReadable past at = (horizon past ≤ at) ⊎ Contains (stamps (open_snapshots past)) at

-- the past of the store of a key
abbrev pub past_with : Layout → List Turn → List ℕ → List Step
past_with layout run key = past_of layout (layout.store_of key) run

-- the store is sealed and drained: it accepted each item that was issued for it
abbrev pub IsDrained : Layout → List Turn → ℕ → Type 0
IsDrained layout run s = (n : ℕ) (item : Item) → Contains (issued s n run) item → IsAccepted layout s item run

-- the stamp is at most the floor of each store that is not drained
abbrev pub IsCutOfOthers : Layout → List Turn → ℕ → Type 0
IsCutOfOthers layout run stamp =
    (s : ℕ) → s < layout.stores → (stamp ≤ floor (past_of layout s run)) ⊎ IsDrained layout run s

-- A store of a new layout takes over the keys of a kind from a store of a run, which is drained. It begins with a state
-- that has that store's rows of these keys, its horizon and its open snapshots, and no lesser floor: with a part of its
-- checkpoint, with one joined of its checkpoint and another, or with all of it.
pub record TakesOver (old : Layout) (run : List Turn) (new : Layout) (s t : ℕ) (is_of : List ℕ → Bool) : Type 0 where
  pub drained : IsDrained old run s
  pub kept : StoreView
  pub represents : Represents kept (past_of old s run)
  pub state : StoreView
  pub begins : new.begun t ≡ Began state ∷ []
  pub rows : rows_of_keys is_of state.rows ≡ rows_of_keys is_of kept.rows
  pub horizon : state.horizon ≡ kept.horizon
  pub snapshots : state.snapshots ≡ kept.snapshots
  pub floor : floor_in kept ≤ floor_in state

-- A run led on to a later one, along the stores of a key: it went on, or a store of a new layout took over the key, and
-- a run of that layout followed, and so on. These are the rows of all items that were issued since.
pub data LeadsTo (key : List ℕ) (old : Layout) (run : List Turn) : Layout → List Turn → List Row → Type 0 where
  went_on : (more : List Turn) → IsLegal old (more ++ run) → LeadsTo key old run old (more ++ run) (issued_since more)
  taken_over : {middle new : Layout} {before later : List Turn} {rows : List Row} (is_of : List ℕ → Bool)
      → LeadsTo key old run middle before rows → is_of key ≡ true
      → TakesOver middle before new (middle.store_of key) (new.store_of key) is_of → IsLegal new later
      → LeadsTo key old run new later (rows ++ issued_since later)

-- What a run of stores begins with: new nodes, or the states of stores.
use Rattle.std.specs.Prelude.{◌≡◌, ℕ, ◌<◌, ◌≤◌, List, [], ◌∷◌, length, Option, Some, None, slice_get}
use Rattle.hlc_node.specs.Node.{NodeView}
use Rattle.hlc_core.specs.Past.{Step, Started, Began, numbered, count, retired, link_in}
use Rattle.hlc_core.specs.{StoreView.StoreView, StoreView.Represents as CoreRepresents, Checkpoint.IsCheckpoint}
use Rattle.hlc_ranges.specs.Run.{Layout}
use Rattle.hlc_split.specs.Split.{part_of, is_under, is_from}
use Rattle.hlc_routing.specs.{Division.ByKeys, Division.store_of, Placing.AreAllPlaced}
use Rattle.hlc_routing.specs.{Ranges.RangesView, Machine.MachineView}

-- the past that begins with this state, or with no node where there is no store
abbrev pub begun_with : Option StoreView → List Step
begun_with None = Started 0 ∷ []
begun_with (Some store) = Began store ∷ []

-- the layout of a run that begins with the states of these stores, with this machine of each node of each store, and
-- machines with these clocks
abbrev pub layout_from : RangesView → (ℕ → ℕ → ℕ) → (ℕ → ℕ) → Layout
layout_from kept machine clock = record {
  stores = length kept.stores;
  begun = λ s. begun_with (slice_get kept.stores s);
  clock = clock;
  machine = machine;
  store_of = store_of kept.division;
}

-- A run may begin with these states: each is a checkpoint, has only rows of its keys, and no head above the clock of
-- its node's machine.
pub record AreStates (kept : RangesView) (machine : ℕ → ℕ → ℕ) (clock : ℕ → ℕ) : Type 0 where
  pub checkpoints : (s : ℕ) (store : StoreView) → slice_get kept.stores s ≡ Some store → IsCheckpoint store
  pub placed : AreAllPlaced kept.division kept.stores
  pub reached : (s n : ℕ) (store : StoreView) → slice_get kept.stores s ≡ Some store
      → (link_in store n).head ≤ clock (machine s n)

-- the two parts of a state at a key, as stores of their own: that of the lower keys, and that of the others
abbrev pub halves_of : StoreView → List ℕ → RangesView
halves_of kept key = record {
  division = ByKeys (key ∷ []);
  stores = part_of (is_under key) kept ∷ part_of (is_from key) kept ∷ [];
}

-- these stores were restored from the states, so each represents the past that begins with its state
pub record AreRestored (states kept : RangesView) : Type 0 where
  pub division : kept.division ≡ states.division
  pub many : length kept.stores ≡ length states.stores
  pub pasts : (s : ℕ) (state store : StoreView) → slice_get states.stores s ≡ Some state
      → slice_get kept.stores s ≡ Some store → CoreRepresents store (Began state ∷ [])

-- the node is one of those that a store begins with: it has the next number of its link there, and has retired if it
-- has there
pub record IsFirstNode (layout : Layout) (s : ℕ) (node : NodeView) : Type 0 where
  pub inside : node.id < numbered (layout.begun s)
  pub next : node.next ≡ count node.id (layout.begun s)
  pub retired : node.retired ≡ retired node.id (layout.begun s)

-- the machine has a node in each store, which the store begins with, and is not behind its clock at the beginning
pub record IsFirstMachine (layout : Layout) (m : ℕ) (machine : MachineView) : Type 0 where
  pub many : length machine.nodes ≡ layout.stores
  pub nodes : (s : ℕ) (node : NodeView) → slice_get machine.nodes s ≡ Some node → IsFirstNode layout s node
  pub machines : (s : ℕ) (node : NodeView) → slice_get machine.nodes s ≡ Some node → layout.machine s node.id ≡ m
  pub clock : layout.clock m ≤ machine.last

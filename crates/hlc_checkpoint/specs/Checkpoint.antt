-- The definition of a checkpoint: the state of a core, with its rows by key, stamp and node; and the first reason why
-- some values are not one.
use Rattle.std.specs.Prelude.{◌≡◌, ℕ, ◌<◌, ◌≤◌, [], All, MatchResult, Result, IsPermutation}
use Rattle.hlc_heads.specs.Heads.{floor_of}
use Rattle.hlc_snapshot.specs.RegistryView.{IsRegister}
use Rattle.hlc_witness.specs.{Certificate.RowsAscend, Cost.AreInLimits}
use Rattle.hlc_checkpoint.specs.{declared.checkpoint.RestoreFault.RestoreFault, Sorted.AreRowsAbove}
use Rattle.hlc_checkpoint.specs.declared.checkpoint.RestoreFault.TheVariants.{NodesOutOfRange, NumberAboveHead}
use Rattle.hlc_checkpoint.specs.declared.checkpoint.RestoreFault.TheVariants.{RetiredWithoutItem, SnapshotsNotRising}
use Rattle.hlc_checkpoint.specs.declared.checkpoint.RestoreFault.TheVariants.{SnapshotAboveFloor, HorizonAboveFloor}
use Rattle.hlc_checkpoint.specs.declared.checkpoint.RestoreFault.TheVariants.{RowsNotAscending, RowAboveHead}
use Rattle.hlc_checkpoint.specs.declared.checkpoint.RestoreFault.TheVariants.{RowOutOfLimits}
use Rattle.hlc_checkpoint.specs.StoreView.{StoreView, HasNodes, HasStamps, HasLastItem, IsUnderHead, IsSound}
use Rattle.hlc_checkpoint.specs.StoreView.{IsConsistent, marks_of, with_rows}

-- the floor of a state
abbrev pub floor_in : StoreView → ℕ
floor_in kept = floor_of (marks_of kept.links kept.top)

-- the open snapshots are those of a register
abbrev pub HasRegister : StoreView → Type 0
HasRegister kept = IsRegister (record { snapshots = kept.snapshots; last_id = kept.last_id })

-- no open snapshot is above this floor
abbrev pub AreAtMost : ℕ → StoreView → Type 0
AreAtMost floor kept = All (λ snapshot. snapshot.stamp ≤ floor) kept.snapshots

-- A state is that of a store: it is consistent and sound, and its open snapshots are those of a register. Its rows may
-- be in any order.
pub record IsStore (kept : StoreView) : Type 0 where
  pub consistent : IsConsistent (marks_of kept.links kept.top) kept.snapshots kept.rows
  pub sound : IsSound kept.initial_nodes kept.links kept.top kept.horizon kept.rows
  pub register : HasRegister kept

-- A state is a checkpoint: it is that of a store, and its rows ascend by key, stamp and node.
pub record IsCheckpoint (kept : StoreView) : Type 0 where
  pub store : IsStore kept
  pub ascend : RowsAscend kept.rows

-- there are nodes, and possible links of them
abbrev pub HasLinks : StoreView → Type 0
HasLinks kept = HasNodes kept.initial_nodes kept.links × All HasStamps kept.links × All HasLastItem kept.links

-- without its rows it is the state of a store, so nothing but the rows is the reason
abbrev pub IsStoreHead : StoreView → Type 0
IsStoreHead kept = IsStore (with_rows kept [])

-- the first reason why this is no checkpoint
abbrev pub IsFirstReason : StoreView → RestoreFault → Type 0
IsFirstReason kept NodesOutOfRange = HasNodes kept.initial_nodes kept.links → ⊥
IsFirstReason kept NumberAboveHead = HasNodes kept.initial_nodes kept.links × (All HasStamps kept.links → ⊥)
IsFirstReason kept RetiredWithoutItem =
    HasNodes kept.initial_nodes kept.links × All HasStamps kept.links × (All HasLastItem kept.links → ⊥)
IsFirstReason kept SnapshotsNotRising = HasLinks kept × (HasRegister kept → ⊥)
IsFirstReason kept SnapshotAboveFloor = HasLinks kept × HasRegister kept × (AreAtMost (floor_in kept) kept → ⊥)
IsFirstReason kept HorizonAboveFloor =
    HasLinks kept × HasRegister kept × AreAtMost (floor_in kept) kept × (floor_in kept < kept.horizon)
IsFirstReason kept RowsNotAscending = IsStoreHead kept × (RowsAscend kept.rows → ⊥)
IsFirstReason kept RowAboveHead =
    IsStoreHead kept × RowsAscend kept.rows × (All (IsUnderHead kept.links) kept.rows → ⊥)
IsFirstReason kept RowOutOfLimits =
    IsStoreHead kept × RowsAscend kept.rows × All (IsUnderHead kept.links) kept.rows × (AreInLimits kept.rows → ⊥)

-- the first reason, and one that needs no rows
abbrev pub IsHeadReason : StoreView → RestoreFault → Type 0
IsHeadReason kept RowsNotAscending = ⊥
IsHeadReason kept RowAboveHead = ⊥
IsHeadReason kept RowOutOfLimits = ⊥
IsHeadReason kept fault = IsFirstReason kept fault

-- the copy is the same state, with its rows in another order
pub record IsCopyOf (kept copy : StoreView) : Type 0 where
  pub same : copy ≡ with_rows kept copy.rows
  pub rows : IsPermutation kept.rows copy.rows

-- the checkpoint is the state of the core, with its rows in order
pub record IsCheckpointOf (kept checkpoint : StoreView) : Type 0 where
  pub copy : IsCopyOf kept checkpoint
  pub ascend : RowsAscend checkpoint.rows

-- the copy is the same state, but of its rows it has those above a stamp alone, in order
pub record IsCopyAbove (since : ℕ) (kept copy : StoreView) : Type 0 where
  pub same : copy ≡ with_rows kept copy.rows
  pub rows : AreRowsAbove kept.rows since copy.rows

-- a core with the state of the checkpoint was made, and it is a checkpoint; or the reason why not
abbrev pub Restores : StoreView → Result StoreView RestoreFault → Type 0
Restores checkpoint result =
    MatchResult result (λ core. IsCheckpoint checkpoint × IsCopyOf checkpoint core) (IsFirstReason checkpoint)

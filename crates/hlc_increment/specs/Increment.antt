-- An increment of a store: its state without the rows at or below a stamp; and what an older checkpoint becomes by it.
use Rattle.std.specs.Prelude.{◌≡◌, ℕ, ◌<◌, ◌≤◌, ◌⊎◌, List, [], ◌∷◌, ◌++◌, All, Contains, IsTrue, length, IsPermutation}
use Rattle.hlc_intake.specs.IntakeView.{IntakeView}
use Rattle.hlc_heads.specs.Heads.{link_at}
use Rattle.hlc_snapshot.specs.declared.snapshot.Snapshot.{Snapshot}
use Rattle.hlc_table_column.specs.Rows.{rows_to}
use Rattle.hlc_witness.specs.Certificate.{RowsAscend}
use Rattle.hlc_core.specs.Past.{Step, Started, Began, Took, Opened, Closed, Vacuumed, Joined, PartVacuumed}
use Rattle.hlc_core.specs.StoreView.{StoreView, with_rows}
use Rattle.hlc_core.specs.Checkpoint.{IsCheckpoint, IsCopyAbove, IsFirstReason, floor_in}
use Rattle.hlc_increment.specs.declared.{increment.IncrementFault.IncrementFault, advancing.AdvanceFault.AdvanceFault}
use Rattle.hlc_increment.specs.declared.advancing.AdvanceFault.TheVariants.{Parts, NotLater, AboveFloor, BelowHorizon}
use Rattle.hlc_increment.specs.declared.advancing.AdvanceFault.TheVariants.{RowUpToStamp}
use Rattle.hlc_increment.specs.declared.increment.IncrementFault.TheVariants as increments

-- the stamp, and the state of a store with its rows above that alone
pub record IncrementView : Type 0 where
  pub since : ℕ
  pub state : StoreView

-- it is that of a store with this state, whose horizon is not above the stamp
pub record IsIncrementOf (kept : StoreView) (increment : IncrementView) : Type 0 where
  pub copy : IsCopyAbove increment.since kept increment.state
  pub horizon : kept.horizon ≤ increment.since

-- the checkpoint has all of the increment's state, and the rows of the older checkpoint up to the stamp with those of
-- the increment, by key, stamp and node
pub record IsAdvanced (older : StoreView) (increment : IncrementView) (made : StoreView) : Type 0 where
  pub same : made ≡ with_rows increment.state made.rows
  pub rows : IsPermutation (rows_to increment.since older.rows ++ increment.state.rows) made.rows
  pub ascend : RowsAscend made.rows

-- the same steps, but each vacuum, and each part of one, is a part that dropped nothing
abbrev pub without_drops : List Step → List Step
without_drops [] = []
without_drops (Started nodes ∷ past) = Started nodes ∷ without_drops past
without_drops (Began kept ∷ past) = Began kept ∷ without_drops past
without_drops (Took item ∷ past) = Took item ∷ without_drops past
without_drops (Opened stamp ∷ past) = Opened stamp ∷ without_drops past
without_drops (Closed id ∷ past) = Closed id ∷ without_drops past
without_drops (Vacuumed at ∷ past) = PartVacuumed at 0 ∷ without_drops past
without_drops (Joined node start ∷ past) = Joined node start ∷ without_drops past
without_drops (PartVacuumed at dropped ∷ past) = PartVacuumed at 0 ∷ without_drops past

-- the link may be the other one later on: neither its number nor its head fell, and a node that retired did not come
-- back
pub record IsLaterLink (older newer : IntakeView) : Type 0 where
  pub next : older.next ≤ newer.next
  pub head : older.head ≤ newer.head
  pub retired : IsTrue older.retired → IsTrue newer.retired

-- the links may be the others later on, with those of nodes that joined
pub record AreLaterLinks (older newer : List IntakeView) : Type 0 where
  pub many : length older ≤ length newer
  pub each : (n : ℕ) → n < length older → IsLaterLink (link_at older n) (link_at newer n)

-- the snapshot was open at the older state, or has an id that was not assigned then: it is no closed one
abbrev pub IsOpenOrNew : StoreView → Snapshot → Type 0
IsOpenOrNew older snapshot = snapshot.id ≤ older.last_id → Contains older.snapshots snapshot

-- The state may be the other one later on: it has as many nodes at the start; no link, horizon or last id went back;
-- and no closed snapshot is open again.
pub record MayBeLater (older newer : StoreView) : Type 0 where
  pub initial_nodes : older.initial_nodes ≡ newer.initial_nodes
  pub links : AreLaterLinks older.links newer.links
  pub horizon : older.horizon ≤ newer.horizon
  pub last_id : older.last_id ≤ newer.last_id
  pub snapshots : All (IsOpenOrNew older) newer.snapshots

-- the first refusal of an increment of a store with this state, or out of memory
abbrev pub IsRefused : StoreView → ℕ → IncrementFault → Type 0
IsRefused kept since (increments.BelowHorizon horizon) = (horizon ≡ kept.horizon) × (since < horizon)
IsRefused kept since increments.NoMemory = kept.horizon ≤ since

-- The increment and the checkpoint fit each other: both are checkpoints, the one perhaps later than the other; the
-- stamp lies from the one's horizon to the other's floor; and the rows of the increment are above it.
pub record AreFitting (older : StoreView) (increment : IncrementView) : Type 0 where
  pub sound : IsCheckpoint older
  pub state : IsCheckpoint increment.state
  pub later : MayBeLater older increment.state
  pub low : increment.since ≤ floor_in older
  pub high : increment.state.horizon ≤ increment.since
  pub above : All (λ row. increment.since < row.stamp) increment.state.rows

-- both are checkpoints, the one perhaps later than the other
abbrev pub AreInOrder : StoreView → StoreView → Type 0
AreInOrder older newer = IsCheckpoint older × IsCheckpoint newer × MayBeLater older newer

-- the first reason why the checkpoint does not become a newer one
abbrev pub IsReason : StoreView → IncrementView → AdvanceFault → Type 0
IsReason older increment (Parts fault) =
    IsFirstReason older fault ⊎ (IsCheckpoint older × IsFirstReason increment.state fault)
IsReason older increment NotLater =
    IsCheckpoint older × IsCheckpoint increment.state × (MayBeLater older increment.state → ⊥)
IsReason older increment (AboveFloor floor) =
    AreInOrder older increment.state × (floor ≡ floor_in older) × (floor < increment.since)
IsReason older increment (BelowHorizon horizon) =
    AreInOrder older increment.state × (increment.since ≤ floor_in older) × (horizon ≡ increment.state.horizon)
    × (increment.since < horizon)
IsReason older increment RowUpToStamp =
    AreInOrder older increment.state × (increment.since ≤ floor_in older)
    × (increment.state.horizon ≤ increment.since)
    × (All (λ row. increment.since < row.stamp) increment.state.rows → ⊥)

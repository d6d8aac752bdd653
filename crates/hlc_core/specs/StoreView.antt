-- The past that the state of a core represents.
use Rattle.std.specs.Prelude.{◌≡◌, ℕ, ◌<◌, List, length, Some, slice_get}
use Rattle.hlc_intake.specs.IntakeView.{IntakeView}
use Rattle.hlc_snapshot.specs.RegistryView.{stamps}
use Rattle.hlc_vacuum.specs.Representing.{RowsRepresent}
use Rattle.hlc_core.specs.Past.{Step, initial_nodes, numbered, count, head, retired, top, horizon, last_id}
use Rattle.hlc_core.specs.Past.{open_snapshots, writes, IsLegal}
use Rattle.hlc_core.specs.Stored.{IsStoredCount}
pub use Rattle.hlc_checkpoint.specs.StoreView.{StoreView, marks_of, with_rows, with_rows_left, without_snapshots}
pub use Rattle.hlc_checkpoint.specs.StoreView.{greatest_head, HasNodes, HasStamps, HasLastItem, IsUnderHead}
pub use Rattle.hlc_checkpoint.specs.StoreView.{IsSound, IsConsistent}

-- the links of all nodes after a past, by number
pub record AreLinks (past : List Step) (links : List IntakeView) : Type 0 where
  pub many : length links ≡ numbered past
  pub each : (n : ℕ) → n < length links
      → slice_get links n ≡ Some (record { next = count n past; head = head n past; retired = retired n past })

-- The core represents the past: whatever vacuums dropped, its rows answer as all accepted writes do at each open
-- snapshot and from the horizon on, and their number is the expected one.
pub record Represents (kept : StoreView) (past : List Step) : Type 0 where
  pub legal : IsLegal past
  pub initial_nodes : kept.initial_nodes ≡ initial_nodes past
  pub links : AreLinks past kept.links
  pub top : kept.top ≡ top past
  pub snapshots : kept.snapshots ≡ open_snapshots past
  pub last_id : kept.last_id ≡ last_id past
  pub rows : RowsRepresent kept.rows (writes past) (horizon past) (stamps (open_snapshots past))
  pub stored : IsStoredCount past (length kept.rows)
  pub horizon : kept.horizon ≡ horizon past

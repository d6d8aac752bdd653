-- The state of a core, and the properties that a checkpoint and a core share.
use Rattle.std.specs.Prelude.{◌≡◌, ℕ, ◌<◌, ◌≤◌, List, [], ◌∷◌, length, max, true, All}
use Rattle.hlc_rows.specs.{declared.row.Row.Row, Rows.IsRowSet}
use Rattle.hlc_intake.specs.IntakeView.{IntakeView}
use Rattle.hlc_heads.specs.declared.heads.TheConstants.{MAX_INITIAL_NODES, MAX_NODES}
use Rattle.hlc_heads.specs.Heads.{HeadsView, link_at, floor_of}
use Rattle.hlc_snapshot.specs.declared.snapshot.Snapshot.{Snapshot}
use Rattle.hlc_witness.specs.Cost.{AreInLimits}

-- the state of a core: the number of nodes at the start; by node the progress of its link; the greatest head; the open
-- snapshots; the last id that a snapshot was given; the horizon; the stored rows
pub record StoreView : Type 0 where
  pub initial_nodes : ℕ
  pub links : List IntakeView
  pub top : ℕ
  pub snapshots : List Snapshot
  pub last_id : ℕ
  pub horizon : ℕ
  pub rows : List Row

-- these links, and this greatest stamp
abbrev pub marks_of : List IntakeView → ℕ → HeadsView
marks_of links top = record { links = links; top = top }

-- the state with these rows
abbrev pub with_rows : StoreView → List Row → StoreView
with_rows kept rows = record kept { rows = rows }

-- the state with these rows, at this horizon
abbrev pub with_rows_left : StoreView → List Row → ℕ → StoreView
with_rows_left kept rows horizon = record kept { horizon = horizon; rows = rows }

-- the state with no snapshot open
abbrev pub without_snapshots : StoreView → StoreView
without_snapshots kept = record kept { snapshots = [] }

-- there were 1 to 64 nodes at the start, and there is a link of each of them and of each that joined, no more in all
-- than node numbers
pub record HasNodes (initial_nodes : ℕ) (links : List IntakeView) : Type 0 where
  pub some : 0 < initial_nodes
  pub few : initial_nodes ≤ MAX_INITIAL_NODES
  pub linked : initial_nodes ≤ length links
  pub bounded : length links ≤ MAX_NODES

-- each item has a stamp of its own above 0.0, so there are no more items than the word of the head
abbrev pub HasStamps : IntakeView → Type 0
HasStamps link = link.next ≤ link.head

-- if the node has retired, it has an accepted item: its last
abbrev pub HasLastItem : IntakeView → Type 0
HasLastItem link = link.retired ≡ true → 0 < link.next

-- the greatest head of some links, 0 if there are none
abbrev pub greatest_head : List IntakeView → ℕ
greatest_head [] = 0
greatest_head (link ∷ links) = max link.head (greatest_head links)

-- the row is of one of the nodes, not above its head, and above 0.0, as each item is
abbrev pub IsUnderHead : List IntakeView → Row → Type 0
IsUnderHead links row =
    (row.node < length links) × (row.stamp ≤ (link_at links row.node).head) × (0 < row.stamp)

-- there are nodes, and links of them with possible progress; the top is the greatest head; the horizon is not above the
-- floor; an item may write each row
pub record IsSound (initial_nodes : ℕ) (links : List IntakeView) (most low : ℕ) (rows : List Row) : Type 0 where
  pub nodes : HasNodes initial_nodes links
  pub stamps : All HasStamps links
  pub last : All HasLastItem links
  pub top : most ≡ greatest_head links
  pub horizon : low ≤ floor_of (marks_of links most)
  pub limits : AreInLimits rows

-- no open snapshot is above the floor, no two rows are one version, and none is above the head of its node
pub record IsConsistent (marks : HeadsView) (snapshots : List Snapshot) (rows : List Row) : Type 0 where
  pub opened : All (λ snapshot. snapshot.stamp ≤ floor_of marks) snapshots
  pub row_set : IsRowSet rows
  pub stored : All (IsUnderHead marks.links) rows

-- The one encoding of each checkpoint. Numbers are big-endian.
use Rattle.std.specs.Prelude.{◌≡◌, ℕ, ◌<◌, List, ◌++◌, length, All}
use Rattle.std.specs.{List.flat_map, Int.Width, Int.w16, Int.w64, Int.to_be_bytes}
use Rattle.hlc_rows.specs.declared.row.Row.{Row}
use Rattle.hlc_intake.specs.IntakeView.{IntakeView}
use Rattle.hlc_snapshot.specs.declared.snapshot.Snapshot.{Snapshot}
use Rattle.hlc_checkpoint.specs.StoreView.{StoreView, greatest_head}
use Rattle.hlc_wire.specs.Spelling.{flag_bytes, key_bytes, value_bytes, KeyFits, ValueFits}
use Rattle.hlc_frame.specs.Frame.{frame_bytes, FrameFits}

-- the progress of a link: the next number and the head in eight bytes each, and whether its node has retired
abbrev pub link_bytes : IntakeView → List ℕ
link_bytes link = to_be_bytes w64 link.next ++ (to_be_bytes w64 link.head ++ flag_bytes link.retired)

-- an open snapshot: its id and its stamp in eight bytes each
abbrev pub snapshot_bytes : Snapshot → List ℕ
snapshot_bytes snapshot = to_be_bytes w64 snapshot.id ++ to_be_bytes w64 snapshot.stamp

-- a row: its key; its stamp in eight bytes and its node in two; its value
abbrev pub row_bytes : Row → List ℕ
row_bytes row = key_bytes row.key ++ (to_be_bytes w64 row.stamp ++ (to_be_bytes w16 row.node ++ value_bytes row.value))

-- their number, and each in turn
abbrev pub list_bytes : {A : Type 0} → Width → (A → List ℕ) → List A → List ℕ
list_bytes w spell xs = to_be_bytes w (length xs) ++ flat_map spell xs

-- the part before the rows: the number of nodes at the start; the links; the open snapshots; the last id of a snapshot;
-- the horizon; the number of rows
pub record Preamble : Type 0 where
  pub initial_nodes : ℕ
  pub links : List IntakeView
  pub snapshots : List Snapshot
  pub last_id : ℕ
  pub horizon : ℕ
  pub count : ℕ

abbrev pub preamble_bytes : Preamble → List ℕ
preamble_bytes preamble =
    to_be_bytes w16 preamble.initial_nodes ++ (list_bytes w16 link_bytes preamble.links
    ++ (list_bytes w16 snapshot_bytes preamble.snapshots ++ (to_be_bytes w64 preamble.last_id
    ++ (to_be_bytes w64 preamble.horizon ++ to_be_bytes w64 preamble.count))))

-- a checkpoint without its rows; its greatest stamp is the greatest head, and is not encoded
abbrev pub preamble_of : StoreView → Preamble
preamble_of kept = record {
  initial_nodes = kept.initial_nodes;
  links = kept.links;
  snapshots = kept.snapshots;
  last_id = kept.last_id;
  horizon = kept.horizon;
  count = length kept.rows;
}

-- the checkpoint with these rows
abbrev pub kept_of : Preamble → List Row → StoreView
kept_of preamble rows = record {
  initial_nodes = preamble.initial_nodes;
  links = preamble.links;
  top = greatest_head preamble.links;
  snapshots = preamble.snapshots;
  last_id = preamble.last_id;
  horizon = preamble.horizon;
  rows = rows;
}

-- a checkpoint: the part before the rows, and the rows
abbrev pub checkpoint_bytes : StoreView → List ℕ
checkpoint_bytes kept = preamble_bytes (preamble_of kept) ++ flat_map row_bytes kept.rows

-- in a frame, with a tag of the caller's
abbrev pub saved_bytes : ℕ → StoreView → List ℕ
saved_bytes tag kept = frame_bytes tag (checkpoint_bytes kept)

-- What has an encoding: numbers in their ranges, rows in their limits, the greatest head as the greatest stamp.
pub record LinkFits (link : IntakeView) : Type 0 where
  pub next : link.next < 18446744073709551616
  pub head : link.head < 18446744073709551616

pub record SnapshotFits (snapshot : Snapshot) : Type 0 where
  pub id : snapshot.id < 18446744073709551616
  pub stamp : snapshot.stamp < 18446744073709551616

pub record RowFits (row : Row) : Type 0 where
  pub key : KeyFits row.key
  pub stamp : row.stamp < 18446744073709551616
  pub node : row.node < 65536
  pub value : ValueFits row.value

abbrev pub ListFits : {A : Type 0} → ℕ → (A → Type 0) → List A → Type 0
ListFits limit Fits xs = (length xs < limit) × All Fits xs

pub record PreambleFits (preamble : Preamble) : Type 0 where
  pub initial_nodes : preamble.initial_nodes < 65536
  pub links : ListFits 65536 LinkFits preamble.links
  pub snapshots : ListFits 65536 SnapshotFits preamble.snapshots
  pub last_id : preamble.last_id < 18446744073709551616
  pub horizon : preamble.horizon < 18446744073709551616
  pub count : preamble.count < 18446744073709551616

pub record CheckpointFits (kept : StoreView) : Type 0 where
  pub initial_nodes : kept.initial_nodes < 65536
  pub links : ListFits 65536 LinkFits kept.links
  pub top : kept.top ≡ greatest_head kept.links
  pub snapshots : ListFits 65536 SnapshotFits kept.snapshots
  pub last_id : kept.last_id < 18446744073709551616
  pub horizon : kept.horizon < 18446744073709551616
  pub rows : ListFits 18446744073709551616 RowFits kept.rows

pub record SavedFits (tag : ℕ) (kept : StoreView) : Type 0 where
  pub frame : FrameFits tag (checkpoint_bytes kept)
  pub checkpoint : CheckpointFits kept

-- rows that have encodings, of this many bytes in all
pub record AreOfSize (rows : List Row) (size : ℕ) : Type 0 where
  pub bytes : size ≡ length (flat_map row_bytes rows)
  pub fits : All RowFits rows

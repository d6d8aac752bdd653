-- Reading a checkpoint from left to right, up to the first fault.
use Rattle.std.specs.Prelude.{ℕ, zero, suc, List, [], ◌∷◌, Result, Ok}
use Rattle.std.specs.Int.{Width, w16, w64}
use Rattle.hlc_rows.specs.declared.row.Row.{Row}
use Rattle.hlc_intake.specs.IntakeView.{IntakeView}
use Rattle.hlc_snapshot.specs.declared.snapshot.Snapshot.{Snapshot}
use Rattle.hlc_checkpoint.specs.StoreView.{StoreView}
use Rattle.hlc_wire.specs.declared.fault.WireFault.{WireFault}
use Rattle.hlc_wire.specs.Reading.{◌>>=◌, number_at, flag_at, key_at, value_at, whole}
use Rattle.hlc_frame.specs.Opening.{opened}
use Rattle.hlc_body.specs.Spelling.{Preamble, kept_of}

-- a link
unfoldable pub link_at : List ℕ → Result (IntakeView × List ℕ) WireFault
link_at bytes = do
  next ← number_at w64 bytes
  head ← number_at w64 next.1
  retired ← flag_at head.1
  Ok (record { next = next.0; head = head.0; retired = retired.0 }, retired.1)

-- an open snapshot
unfoldable pub snapshot_at : List ℕ → Result (Snapshot × List ℕ) WireFault
snapshot_at bytes = do
  id ← number_at w64 bytes
  stamp ← number_at w64 id.1
  Ok (record { id = id.0; stamp = stamp.0 }, stamp.1)

-- a row
unfoldable pub row_at : List ℕ → Result (Row × List ℕ) WireFault
row_at bytes = do
  key ← key_at bytes
  stamp ← number_at w64 key.1
  node ← number_at w16 stamp.1
  value ← value_at node.1
  Ok (record { key = key.0; stamp = stamp.0; node = node.0; value = value.0 }, value.1)

-- this many of them
unfoldable pub times_at : {A : Type 0} → (List ℕ → Result (A × List ℕ) WireFault) → ℕ → List ℕ
    → Result (List A × List ℕ) WireFault
times_at read zero bytes = Ok ([], bytes)
times_at read (suc n) bytes = do
  first ← read bytes
  others ← times_at read n first.1
  Ok (first.0 ∷ others.0, others.1)

-- a number, and as many of them
unfoldable pub list_at : {A : Type 0} → Width → (List ℕ → Result (A × List ℕ) WireFault) → List ℕ
    → Result (List A × List ℕ) WireFault
list_at w read bytes = do
  n ← number_at w bytes
  times_at read n.0 n.1

-- the part before the rows
unfoldable pub preamble_at : List ℕ → Result (Preamble × List ℕ) WireFault
preamble_at bytes = do
  initial_nodes ← number_at w16 bytes
  links ← list_at w16 link_at initial_nodes.1
  snapshots ← list_at w16 snapshot_at links.1
  last_id ← number_at w64 snapshots.1
  horizon ← number_at w64 last_id.1
  count ← number_at w64 horizon.1
  Ok (
    record {
      initial_nodes = initial_nodes.0;
      links = links.0;
      snapshots = snapshots.0;
      last_id = last_id.0;
      horizon = horizon.0;
      count = count.0;
    },
    count.1,
  )

-- a checkpoint
unfoldable pub checkpoint_at : List ℕ → Result (StoreView × List ℕ) WireFault
checkpoint_at bytes = do
  preamble ← preamble_at bytes
  rows ← times_at row_at preamble.0.count preamble.1
  Ok (kept_of preamble.0 rows.0, rows.1)

-- all of the bytes are a frame, and all of its body is a checkpoint: the tag and the checkpoint
abbrev pub saved : List ℕ → Result (ℕ × StoreView) WireFault
saved bytes = do
  frame ← opened bytes
  kept ← whole (checkpoint_at frame.1)
  Ok (frame.0, kept)

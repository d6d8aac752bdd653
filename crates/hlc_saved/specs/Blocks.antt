-- A checkpoint that is read in blocks of any size.
use Rattle.std.specs.Prelude.{◌≡◌, ℕ, ◌<◌, List, ◌++◌, drop, Result, Ok, Err, slice_index}
use Rattle.hlc_core.specs.StoreView.{StoreView}
use Rattle.hlc_wire.specs.declared.fault.{WireFault.WireFault, WireFault.TheVariants.Short, DecodeError.DecodeError}
use Rattle.hlc_checkpoint.specs.{Growing.GrowingView, Growing.HasGrown, StoreView.with_rows}
use Rattle.hlc_wire.specs.Reading.{◌>>=◌, Fails}
use Rattle.hlc_frame.specs.Reading.{body_so_far}
use Rattle.hlc_saved.specs.declared.stage.Stage.{Stage, TheVariants.Start, TheVariants.Rows, TheVariants.Wrong}
use Rattle.hlc_saved.specs.declared.{parts.PartsReader.PartsReader, reader.CheckpointReader.CheckpointReader}
use Rattle.hlc_body.specs.Reading.{row_at, times_at, preamble_at, checkpoint_at}
use Rattle.hlc_frame.specs.Reading as frames

-- what is read of these next bytes: a checkpoint and the bytes after it, or a fault
abbrev pub Reader : Type 0
Reader = List ℕ → Result (StoreView × List ℕ) WireFault

-- this many more rows, after those of the checkpoint so far
unfoldable pub rows_after : StoreView → ℕ → Reader
rows_after kept left bytes = do
  others ← times_at row_at left bytes
  Ok (with_rows kept (kept.rows ++ others.0), others.1)

-- With these pending bytes, this is what is read of the next ones.

-- after the part before the rows, and some rows: whichever they were
abbrev pub RowsLeave : GrowingView → ℕ → List ℕ → Reader → Type 0
RowsLeave growing left bytes read =
    (kept : StoreView) × HasGrown growing kept × ((more : List ℕ) → rows_after kept left (bytes ++ more) ≡ read more)

-- after the result so far
abbrev pub Leaves : Stage → List ℕ → Reader → Type 0
Leaves Start bytes read = (more : List ℕ) → checkpoint_at (bytes ++ more) ≡ read more
Leaves (Rows growing left) bytes read = RowsLeave growing left bytes read
Leaves (Wrong fault) bytes read = (more : List ℕ) → Err fault ≡ read more

-- the next part is not read from these bytes, for this error
abbrev pub NextFails : Stage → DecodeError → List ℕ → Type 0
NextFails Start error bytes = Fails error (preamble_at bytes)
NextFails (Rows growing left) error bytes = (0 < left) × Fails error (row_at bytes)
NextFails (Wrong fault) error bytes = ⊥

-- nothing more is read from these bytes: they end within the next part, or all rows were read
abbrev pub IsStuck : Stage → List ℕ → Type 0
IsStuck Start bytes = preamble_at bytes ≡ Err Short
IsStuck (Rows growing left) bytes = 0 < left → row_at bytes ≡ Err Short
IsStuck (Wrong fault) bytes = Unit {0}

-- after the result so far and the pending bytes
abbrev pub PartsLeave : PartsReader → Reader → Type 0
PartsLeave reader read = Leaves reader.stage (drop reader.at reader.pending.items) read

-- the reader was fed these bytes
pub record HasRead (reader : CheckpointReader) (fed : List ℕ) : Type 0 where
  pub frame : frames.HasRead reader.frame fed
  pub bytes : (i : ℕ) → slice_index fed i < 256
  pub body : PartsLeave reader.parts (λ more. checkpoint_at (body_so_far fed ++ more))

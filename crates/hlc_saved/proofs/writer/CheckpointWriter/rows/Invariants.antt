-- Those so far are written.
use Rattle.std.proofs.Common.{◌≡◌, ◌++◌, ℕ, take, [], flat_map}
use Rattle.hlc_core.specs.StoreView.{StoreView}
use Rattle.hlc_body.specs.Spelling.{row_bytes}
use Rattle.hlc_saved.specs.Writing.{HasWritten}
use Rattle.hlc_saved.proofs.writer.CheckpointWriter.rows.Given as goal

abbrev pub invariant-loop-row : goal.invariant-loop-row
invariant-loop-row l = record {
  written : (tag : ℕ) (kept : StoreView) → HasWritten l.fn.self tag kept []
      → HasWritten l.self tag kept (take l.row-index l.rows);
  returned : l.out.items ≡ l.fn.out.items ++ flat_map row_bytes (take l.row-index l.rows);
}

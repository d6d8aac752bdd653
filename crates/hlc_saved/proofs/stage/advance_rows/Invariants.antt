-- What is read of the next bytes is the same, after the rows so far; the remaining bytes are the last ones.
use Rattle.std.proofs.Common.{◌≡◌, ℕ, ◌-◌, ◌++◌, List}
use Rattle.hlc_saved.specs.Blocks.{Reader, RowsLeave}
use Rattle.hlc_saved.proofs.stage.advance_rows.Given as goal

abbrev pub invariant-loop-done : goal.invariant-loop-done
invariant-loop-done l = record {
  same : (read : Reader) → RowsLeave l.fn.growing l.left l.bytes read
      → RowsLeave l.growing (l.left - l.done) l.rest read;
  back : (front : List ℕ) × (l.bytes ≡ front ++ l.rest);
}

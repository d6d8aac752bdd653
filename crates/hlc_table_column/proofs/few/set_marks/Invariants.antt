-- The values before the position are as they were.
use Rattle.std.proofs.Common.{◌≡◌, length, take}
use Rattle.hlc_table_column.proofs.few.set_marks.Given as goal

abbrev pub invariant-loop-place : goal.invariant-loop-place
invariant-loop-place l = (take l.from l.values ≡ take l.from l.fn.values) × (length l.values ≡ length l.fn.values)

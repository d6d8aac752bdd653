-- The rows so far have moved, and the later ones are as they were.
use Rattle.std.proofs.Common.{◌≡◌, ◌++◌, length, take, drop}
use Rattle.hlc_table_column.proofs.few.Few.pour.Given as goal

abbrev pub invariant-loop-place : goal.invariant-loop-place
invariant-loop-place g l = record {
  moved : l.to ≡ l.fn.to ++ take l.place l.fn.self;
  later : drop l.place l.from ≡ drop l.place l.fn.self;
  long : length l.from ≡ length l.fn.self;
}

-- The bytes of the first values, each of which has fewer than 2^64.
use Rattle.std.proofs.Common.{◌≡◌, ◌≤◌, ◌*◌, ◌^◌, take, sum_by}
use Rattle.hlc_table_column.specs.Cells.{value_bytes}
use Rattle.hlc_table_column.proofs.lanes.bytes_in.Given as goal

abbrev pub invariant-loop-value : goal.invariant-loop-value
invariant-loop-value l = record {
  bytes : l.bytes ≡ sum_by value_bytes (take l.value-index l.values);
  few : l.bytes ≤ l.value-index * 2 ^ 64;
}

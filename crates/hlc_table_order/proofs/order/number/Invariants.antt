-- The positions so far contain their own number.
use Rattle.std.proofs.Common.{◌≡◌, ◌<◌, ℕ, length, slice_index}
use Rattle.hlc_table_order.proofs.order.number.Given as goal

abbrev pub invariant-loop-place : goal.invariant-loop-place
invariant-loop-place l = record {
  long : length l.order.items ≡ length l.fn.order.items;
  numbered : (p : ℕ) → p < l.place → slice_index l.order.items p ≡ p;
}

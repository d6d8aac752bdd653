-- The positions so far were added, and there is room for the others.
use Rattle.std.proofs.Common.{◌≤◌}
use Rattle.hlc_table_order.specs.Order.{IsNumbered}
use Rattle.hlc_table_order.proofs.order.add_places.Given as goal

abbrev pub invariant-loop-place : goal.invariant-loop-place
invariant-loop-place l = record {
  numbered : IsNumbered l.fn.order.items l.order.items l.place;
  room : l.count ≤ l.order.cap;
}

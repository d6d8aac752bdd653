-- The rows so far are at or below the bound.
use Rattle.hlc_table_order.specs.Order.{AreFirstWithin}
use Rattle.hlc_table_order.proofs.newest.count_from.Given as goal

abbrev pub invariant-loop-count : goal.invariant-loop-count
invariant-loop-count l = AreFirstWithin l.stamps l.order l.bound l.count

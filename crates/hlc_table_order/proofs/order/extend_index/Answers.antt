-- The slice is the list's.
use Rattle.std.proofs.Common.{sym, subst}
use Rattle.hlc_table_order.specs.Order.{IsIndex}
use Rattle.hlc_table_order.proofs.order.extend_index.Goals as goal

pub sorts_few-requires : goal.sorts_few-requires
sorts_few-requires c =
    subst (IsIndex c.args.stamps.now c.args.nodes.now) (sym c.as_slice.ensures.value) c.requires

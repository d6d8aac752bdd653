-- The index is one of the same lists.
use Rattle.std.proofs.Common.{ℕ, List, sym, subst}
use Rattle.hlc_table_order.specs.Order.{IsIndex}
use Rattle.hlc_table_order.proofs.PlaceLemmas.{index_as}
use Rattle.hlc_table_column.proofs.lists.Lists.lanes.Goals as goal

pub new-requires-clause-index : goal.new-requires-clause-index
new-requires-clause-index g c =
    let i = c.self.inside in
    index_as i.stamps.items i.nodes.items c.as_slice.result.now c.as_slice-2.result.now c.as_slice-4.result.now
    c.as_slice.ensures c.as_slice-2.ensures
    (subst (λ (l : List ℕ). IsIndex i.stamps.items i.nodes.items l) (sym c.as_slice-4.ensures.value)
    c.self.invariant.1)

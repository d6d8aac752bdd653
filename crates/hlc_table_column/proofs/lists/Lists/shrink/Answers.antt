-- The items of each list stay, and so does the index.
use Rattle.std.proofs.Common.{ℕ, List, length, sym, ap, ◌∙◌, subst}
use Rattle.hlc_table_order.specs.Order.{IsIndex}
use Rattle.hlc_table_order.proofs.PlaceLemmas.{index_as}
use Rattle.hlc_table_column.{specs.Cells.CellsWithRoom, proofs.Moved.room_kept}
use Rattle.hlc_table_column.proofs.lists.Lists.shrink.Goals as goal

pub invariant_of-self : goal.invariant_of-self
invariant_of-self g c =
    let (b, x) = c.self.invariant in
    let i = c.self.inside in
    let e = c.shrink.ensures.items in
    let f = c.shrink-2.ensures.items in
    let n = ap length e in (
      (ap length f ∙ b.0 ∙ sym n, ap length c.shrink-3.ensures.items ∙ b.1 ∙ sym n),
      index_as i.stamps.items i.nodes.items c.shrink.new.items.items c.shrink-2.new.items.items
          c.shrink_to_fit.new.self.items e f
          (subst (λ (l : List ℕ). IsIndex i.stamps.items i.nodes.items l) (sym c.shrink_to_fit.ensures.items) x),
    )

pub returns-clause-room : goal.returns-clause-room
returns-clause-room g c =
    room_kept g.row.N _ _ _ _ _ _ _ (ap (λ (l : CellsWithRoom). l.room) c.self.view_is) c.shrink.ensures.capacity
    c.shrink-2.ensures.capacity c.shrink-3.ensures.capacity

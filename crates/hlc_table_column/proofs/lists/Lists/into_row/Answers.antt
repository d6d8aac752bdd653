-- The lists have one item each.
use Rattle.std.proofs.Common.{◌≡◌, ap, sym, subst, ◌∙◌, length, slice_get, Some, ◌-◌}
use Rattle.hlc_table_column.{specs.Cells.CellsWithRoom, proofs.Beside.length_cells, proofs.Moved.one_cell}
use Rattle.hlc_table_column.proofs.lists.Lists.into_row.Goals as goal

pub returns : goal.returns
returns g c =
    let b = c.self.invariant.0 in
    let i = c.self.inside in
    let one = sym (length_cells i.stamps.items i.nodes.items i.values.items b)
    ∙ ap (λ (l : CellsWithRoom). length l.cells) c.self.view_is ∙ c.requires in
    let ones = b.1 ∙ one in
    sym (ap (λ (l : CellsWithRoom). l.cells) c.self.view_is)
    ∙ one_cell i.stamps.items i.nodes.items i.values.items c.item_at-stamp.result c.item_at-node.result
    c.in-Some.value one (b.0 ∙ one) ones
    (subst (λ l. slice_get l 0 ≡ Some c.item_at-stamp.result) c.as_slice.ensures c.item_at-stamp.ensures)
    (subst (λ l. slice_get l 0 ≡ Some c.item_at-node.result) c.as_slice-2.ensures c.item_at-node.ensures)
    (sym (subst (λ k. Some c.in-Some.value ≡ slice_get i.values.items (k - 1)) ones c.in-Some.ensures.value))

-- What is at the position in each list.
use Rattle.std.proofs.Common.{◌≡◌, ◌<◌, ◌∙◌, Some, ap, map, subst, sym, length, slice_get}
use Rattle.hlc_table_column.specs.Cells.{Cell}
use Rattle.hlc_table_column.proofs.Beside.{length_cells, row_made, stamps_of_cells, nodes_of_cells}
use Rattle.hlc_table_column.proofs.lanes.Lanes.row_at.Goals as goal

pub item_at-requires : goal.item_at-requires
item_at-requires c = subst (λ n. c.args.place < n)
    (ap length (sym c.self.view_is) ∙ length_cells _ _ _ c.self.invariant.0) c.requires

pub item_at-requires-2 : goal.item_at-requires-2
item_at-requires-2 c = subst (λ n. c.args.place < n)
    (ap length (sym c.self.view_is) ∙ length_cells _ _ _ c.self.invariant.0 ∙ sym c.self.invariant.0.0) c.requires

pub returns : goal.returns
returns c =
    let b = c.self.invariant.0 in
    rw (c.in_ok-key.ensures.bytes, c.from_bits.ensures)
    (row_made c.args.self.now c.args.key.now c.args.place c.item_at.result c.item_at-2.result c.in_ok-value.value
    (subst (λ xs. slice_get xs c.args.place ≡ Some c.item_at.result)
    (stamps_of_cells _ _ _ b ∙ ap (map (λ (cell : Cell). cell.stamp)) c.self.view_is) c.item_at.ensures)
    (subst (λ xs. slice_get xs c.args.place ≡ Some c.item_at-2.result)
    (nodes_of_cells _ _ _ b ∙ ap (map (λ (cell : Cell). cell.node)) c.self.view_is) c.item_at-2.ensures)
    (λ cell at. c.in_ok-value.ensures ∙ c.value_at.ensures.value cell at))

-- The same rows are kept in each of the three lists, so they stay side by side. The index is rebuilt; if as many rows
-- remain, none was dropped, and it is the old one.
use Rattle.std.proofs.Common.{ap₂, sym, ap, ◌∙◌, length, arith, rules, min}
use Rattle.std.specs.List.{items_where_true}
use Rattle.hlc_table_column.{specs.Cells.CellsWithRoom, proofs.Chosen.all_chosen, proofs.Moved.with_room}
use Rattle.hlc_table_column.proofs.Beside.{length_cells, cells_chosen, length_chosen_same, beside_chosen}
use Rattle.hlc_table_order.proofs.PlaceLemmas.{index_as}
use Rattle.hlc_table_column.proofs.lists.Lists.keep.Goals as goal

pub keep_flagged-requires : goal.keep_flagged-requires
keep_flagged-requires g c = (
  search rules,
  c.requires ∙ ap (λ (l : CellsWithRoom). length l.cells) (sym c.self.view_is) ∙ length_cells _ _ _ c.self.invariant.0,
)

pub keep_flagged-requires-2 : goal.keep_flagged-requires-2
keep_flagged-requires-2 g c = (
  search rules,
  c.requires ∙ ap (λ (l : CellsWithRoom). length l.cells) (sym c.self.view_is)
      ∙ length_cells _ _ _ c.self.invariant.0 ∙ sym c.self.invariant.0.0,
)

pub keep_flagged-requires-3 : goal.keep_flagged-requires-3
keep_flagged-requires-3 g c = (
  search rules,
  c.requires ∙ ap (λ (l : CellsWithRoom). length l.cells) (sym c.self.view_is)
      ∙ length_cells _ _ _ c.self.invariant.0 ∙ sym c.self.invariant.0.1,
)

pub invariant_of-self : goal.invariant_of-self
invariant_of-self g c = (
  rw (c.keep_flagged.ensures.items, c.keep_flagged-2.ensures.items, c.keep_flagged-3.ensures.items) (beside_chosen
      c.args.keep.now c.self.inside.stamps.items c.self.inside.nodes.items c.self.inside.values.items
      c.self.invariant.0),
  index_as c.as_slice.result.now c.as_slice-then-len-count.result.now c.keep_flagged.new.items.items
      c.keep_flagged-2.new.items.items c.index_again.new.order.items (sym c.as_slice.ensures)
      (sym c.as_slice-then-len-count.ensures) c.index_again.ensures.index,
)

pub invariant_of-self-else-len-count : goal.invariant_of-self-else-len-count
invariant_of-self-else-len-count g c =
    let b = c.self.invariant.0 in
    let i = c.self.inside in
    let bs = c.args.keep.now in
    let many = c.if-len-count.false in
    let was = c.len-count.ensures.value in
    let is = c.len.ensures.value ∙ ap length c.keep_flagged.ensures.items in
    let alike = length_chosen_same bs i.nodes.items i.stamps.items b.0 in
    let same = b.0 in (
      rw (c.keep_flagged.ensures.items, c.keep_flagged-2.ensures.items, c.keep_flagged-3.ensures.items) (beside_chosen
          c.args.keep.now c.self.inside.stamps.items c.self.inside.nodes.items c.self.inside.values.items b),
      index_as i.stamps.items i.nodes.items c.keep_flagged.new.items.items
          c.keep_flagged-2.new.items.items i.order.items
          (c.keep_flagged.ensures.items ∙ all_chosen bs i.stamps.items (omega (arith, many, was, is)))
          (c.keep_flagged-2.ensures.items
          ∙ all_chosen bs i.nodes.items (omega (arith, many, was, is, alike, same))) c.self.invariant.1,
    )

pub returns-then-len-count : goal.returns-then-len-count
returns-then-len-count g c =
    with_room _ _ _ _
    (rw (c.keep_flagged.ensures.items, c.keep_flagged-2.ensures.items, c.keep_flagged-3.ensures.items)
    (cells_chosen c.args.keep.now c.self.inside.stamps.items c.self.inside.nodes.items c.self.inside.values.items
    c.self.invariant.0 ∙ ap (λ (l : CellsWithRoom). items_where_true c.args.keep.now l.cells) c.self.view_is))
    (ap₂ min c.keep_flagged.ensures.capacity
    (ap₂ min c.keep_flagged-2.ensures.capacity c.keep_flagged-3.ensures.capacity)
    ∙ ap (λ (l : CellsWithRoom). l.room) c.self.view_is)

pub returns-else-len-count : goal.returns-else-len-count
returns-else-len-count g c =
    with_room _ _ _ _
    (rw (c.keep_flagged.ensures.items, c.keep_flagged-2.ensures.items, c.keep_flagged-3.ensures.items)
    (cells_chosen c.args.keep.now c.self.inside.stamps.items c.self.inside.nodes.items c.self.inside.values.items
    c.self.invariant.0 ∙ ap (λ (l : CellsWithRoom). items_where_true c.args.keep.now l.cells) c.self.view_is))
    (ap₂ min c.keep_flagged.ensures.capacity
    (ap₂ min c.keep_flagged-2.ensures.capacity c.keep_flagged-3.ensures.capacity)
    ∙ ap (λ (l : CellsWithRoom). l.room) c.self.view_is)

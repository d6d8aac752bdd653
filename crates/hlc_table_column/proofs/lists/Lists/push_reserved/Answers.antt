-- Each list grows by one at its end. The index as it was is also an index of one more row, and so is the extended one.
use Rattle.std.proofs.Common.{◌++◌, ◌∷◌, [], length, sym, ap, ap₂, ◌∙◌, arith, min}
use Rattle.std.proofs.lemmas.List.{length_push}
use Rattle.hlc_table_order.proofs.PlaceLemmas.{index_as, index_of_more}
use Rattle.hlc_table_column.specs.Cells.{CellsWithRoom}
use Rattle.hlc_table_column.proofs.Moved.{fits_each, pushed_cells, with_room}
use Rattle.hlc_table_column.proofs.lists.Lists.push_reserved.Goals as goal

pub push_reserved-requires : goal.push_reserved-requires
push_reserved-requires g c =
    let i = c.self.inside in
    let fits = fits_each i.stamps.items i.nodes.items i.values.items i.stamps.capacity i.nodes.capacity
    i.values.capacity c.args.self.now c.self.invariant.0 c.self.view_is c.requires in
    omega (arith, fits.0)

pub push_reserved-requires-2 : goal.push_reserved-requires-2
push_reserved-requires-2 g c =
    let i = c.self.inside in
    let fits = fits_each i.stamps.items i.nodes.items i.values.items i.stamps.capacity i.nodes.capacity
    i.values.capacity c.args.self.now c.self.invariant.0 c.self.view_is c.requires in
    omega (arith, fits.1)

pub push_reserved-requires-3 : goal.push_reserved-requires-3
push_reserved-requires-3 g c =
    let i = c.self.inside in
    let fits = fits_each i.stamps.items i.nodes.items i.values.items i.stamps.capacity i.nodes.capacity
    i.values.capacity c.args.self.now c.self.invariant.0 c.self.view_is c.requires in
    omega (arith, fits.2)

pub extend_index-requires : goal.extend_index-requires
extend_index-requires g c =
    let (b, x) = c.self.invariant in
    let i = c.self.inside in
    let r = c.row.inside in
    index_as (i.stamps.items ++ r.stamp ∷ []) (i.nodes.items ++ r.node ∷ []) c.as_slice.result.now
    c.as_slice-2.result.now i.order.items (c.as_slice.ensures ∙ c.push_reserved.ensures.items)
    (c.as_slice-2.ensures ∙ c.push_reserved-2.ensures.items)
    (index_of_more i.stamps.items i.nodes.items i.order.items r.stamp r.node b.0 x)

pub invariant_of-self : goal.invariant_of-self
invariant_of-self g c =
    let b = c.self.invariant.0 in
    let i = c.self.inside in
    let r = c.row.inside in
    let n = ap length c.push_reserved.ensures.items ∙ length_push i.stamps.items r.stamp in
    let o = ap length c.push_reserved-2.ensures.items ∙ length_push i.nodes.items r.node in
    let w = ap length c.push_reserved-3.ensures.items ∙ length_push i.values.items r.value in
    let y = b.0 in
    let z = b.1 in (
      (omega (arith, n, o, y), omega (arith, n, w, z)),
      index_as c.as_slice.result.now c.as_slice-2.result.now c.push_reserved.new.self.items
          c.push_reserved-2.new.self.items c.extend_index.new.order.items (sym c.as_slice.ensures)
          (sym c.as_slice-2.ensures) c.extend_index.ensures,
    )

pub returns : goal.returns
returns g c =
    let i = c.self.inside in
    let r = c.row.inside in
    with_room _ _ _ _
    (pushed_cells i.stamps.items i.nodes.items c.push_reserved.new.self.items c.push_reserved-2.new.self.items
    i.values.items c.push_reserved-3.new.self.items r.stamp r.node r.value c.args.row c.args.self.now.cells
    c.self.invariant.0 c.push_reserved.ensures.items c.push_reserved-2.ensures.items c.push_reserved-3.ensures.items
    (ap (λ (l : CellsWithRoom). l.cells) c.self.view_is) c.row.view_is)
    (ap₂ min c.push_reserved.ensures.capacity
    (ap₂ min c.push_reserved-2.ensures.capacity c.push_reserved-3.ensures.capacity)
    ∙ ap (λ (l : CellsWithRoom). l.room) c.self.view_is)

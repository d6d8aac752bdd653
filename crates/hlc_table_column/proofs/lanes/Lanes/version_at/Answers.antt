-- What is at the position in each list.
use Rattle.std.proofs.Common.{◌≡◌, ◌<◌, ◌∙◌, ap, ap₂, subst, sym, length, List, slice_get, Some}
use Rattle.std.proofs.lemmas.Option.{same_Some}
use Rattle.hlc_table_column.{specs.Cells.Cell, proofs.Beside.length_cells, proofs.Beside.each_there}
use Rattle.hlc_table_column.proofs.lanes.Lanes.version_at.Goals as goal

pub item_at-requires : goal.item_at-requires
item_at-requires c = subst (λ n. c.args.place < n)
    (ap length (sym c.self.view_is) ∙ length_cells _ _ _ c.self.invariant.0) c.requires

pub item_at-requires-2 : goal.item_at-requires-2
item_at-requires-2 c = subst (λ n. c.args.place < n)
    (ap length (sym c.self.view_is) ∙ length_cells _ _ _ c.self.invariant.0 ∙ sym c.self.invariant.0.0) c.requires

pub returns : goal.returns
returns c = λ cell at.
    let i = c.self.inside in
    let here = subst (λ (cs : List Cell). slice_get cs c.args.place ≡ Some cell) (sym c.self.view_is) at in
    ap₂ (λ s n. (s, n))
    (c.from_bits-stamp.ensures ∙ same_Some c.item_at.result cell.stamp (sym c.item_at.ensures
    ∙ (each_there i.stamps.now i.nodes.now i.values.now c.args.place cell here).0))
    (same_Some c.item_at-2.result cell.node (sym c.item_at-2.ensures
    ∙ (each_there i.stamps.now i.nodes.now i.values.now c.args.place cell here).1))

-- The value of the row at a position is at that position of the values.
use Rattle.std.proofs.Common.{◌≡◌, sym, ap, ◌∙◌, subst, Some, slice_get, true≢false, length, List, arith, lt-ltb}
use Rattle.std.proofs.Common.{ltb-true}
use Rattle.std.proofs.lemmas.Option.{slice_get_within, get_or_from_slice_get}
use Rattle.hlc_table_column.{specs.Cells.Cell, proofs.Beside.length_cells, proofs.Beside.each_there}
use Rattle.hlc_table_column.proofs.lanes.Lanes.value_at.Goals as goal

pub returns-in_default-clause-value : goal.returns-in_default-clause-value
returns-in_default-clause-value c = λ cell e.
    let vs = c.self.inside.values.now in
    let there = (each_there c.self.inside.stamps.now c.self.inside.nodes.now vs c.args.place cell
    (subst (λ (cs : List Cell). slice_get cs c.args.place ≡ Some cell) (sym c.self.view_is) e)).2 in
    let within = slice_get_within vs c.args.place cell.value there in
    absurd (true≢false (sym (c.in_default.ensures.lookup.0 ∙ lt-ltb _ _ within)))

pub returns-clause-value : goal.returns-clause-value
returns-clause-value c = λ cell e.
    let vs = c.self.inside.values.now in
    let there = (each_there c.self.inside.stamps.now c.self.inside.nodes.now vs c.args.place cell
    (subst (λ (cs : List Cell). slice_get cs c.args.place ≡ Some cell) (sym c.self.view_is) e)).2 in
    c.as_slice.ensures ∙ c.in-Some.ensures.lookup.1
    ∙ get_or_from_slice_get vs c.args.place cell.value c.in-Some.value.now there

pub returns-clause-absent : goal.returns-clause-absent
returns-clause-absent c = λ beyond. absurd (omega (
  arith,
  ltb-true _ _ (sym c.in-Some.ensures.lookup.0),
  ap length c.self.view_is,
  length_cells _ _ _ c.self.invariant.0,
  c.self.invariant.0.1,
))

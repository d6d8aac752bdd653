-- The look-up of the key finds its rows, and a column has at least one.
use Rattle.std.proofs.Common.{◌≡◌, ◌<◌, ◌∙◌, List, Some, None, ap, sym, subst, length, option_copied, IfSome}
use Rattle.std.proofs.lemmas.Map.Entries.{All-lookup}
use Rattle.hlc_table_index.specs.Entries.{entries_in, is_key}
use Rattle.hlc_table_column.specs.{Cells.Cell, Rows.rows_of, Rows.rows_with}
use Rattle.hlc_columns.proofs.FoundLemmas.{cells_in, rows_in_table, found_absent}
use Rattle.hlc_columns.proofs.table.Table.column.Goals.{After-get}
use Rattle.hlc_columns.proofs.table.Table.column.Goals as goal

rows_are : (c : After-get)
    → rows_with c.args.key.now c.args.self.now ≡ rows_of c.args.key.now (cells_in (option_copied c.get.result))
rows_are c =
    ap (rows_with c.args.key.now) (sym c.self.view_is)
    ∙ rows_in_table c.args.key.now (entries_in c.self.inside.columns) c.get.ensures.ascend
    ∙ ap (λ o. rows_of c.args.key.now (cells_in o)) (sym c.get.ensures.value)

some_rows : (c : After-get) → IfSome (option_copied c.get.result) (λ cells. 0 < length cells)
some_rows c =
    subst (λ o. IfSome o (λ (cells : List Cell). 0 < length cells)) (sym c.get.ensures.value)
    (All-lookup (λ (cells : List Cell). 0 < length cells)
    (is_key c.args.key.now) (entries_in c.self.inside.columns) c.self.invariant.0)

pub returns-in-Some-clause-rows : goal.returns-in-Some-clause-rows
returns-in-Some-clause-rows c =
    let at = (goal.at.returns-in-Some-clause-rows c).After-get in
    ap (rows_of c.args.key.now) c.lanes.ensures
    ∙ ap (λ o. rows_of c.args.key.now (cells_in (option_copied o))) (sym c.in-Some.is) ∙ sym (rows_are at)

pub returns-in-Some-clause-absent : goal.returns-in-Some-clause-absent
returns-in-Some-clause-absent c =
    let at = (goal.at.returns-in-Some-clause-absent c).After-get in
    found_absent (Some c.in-Some.column.now) c.args.key.now (rows_with c.args.key.now c.args.self.now)
    (rows_are at ∙ ap (λ o. rows_of c.args.key.now (cells_in (option_copied o))) c.in-Some.is)
    (subst (λ o. IfSome (option_copied o) (λ (cells : List Cell). 0 < length cells)) c.in-Some.is (some_rows at))

pub returns-in-None-clause-absent : goal.returns-in-None-clause-absent
returns-in-None-clause-absent c =
    let at = (goal.at.returns-in-None-clause-absent c).After-get in
    found_absent None c.args.key.now (rows_with c.args.key.now c.args.self.now)
    (rows_are at ∙ ap (λ o. rows_of c.args.key.now (cells_in (option_copied o))) c.in-None.is)
    (subst (λ o. IfSome (option_copied o) (λ (cells : List Cell). 0 < length cells)) c.in-None.is (some_rows at))

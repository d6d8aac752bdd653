-- The row goes to the end of its key's column, or into a column of its own; all others stay.
use Rattle.std.proofs.Common.{◌≡◌, ◌∙◌, subst, OnOk, OnErr}
use Rattle.std.proofs.lemmas.Result.{on_ok_weaker, on_err_weaker}
use Rattle.hlc_rows.specs.{declared.row.Row.Row as ARow, Rows.IsRowSet}
use Rattle.hlc_columns.specs.Table.{indexed_rows, InsertedLast}
use Rattle.hlc_columns.proofs.Inserted.{inserted-IsPermutation, either-IsRowSet}
use Rattle.hlc_columns.proofs.table.Table.insert_ascending.Goals.{After-put_row}
use Rattle.hlc_columns.proofs.table.Table.insert_ascending.Goals as goal

-- the row that is added
abbrev row_in : After-put_row → ARow
row_in c = record { key = c.args.key.now; stamp = c.args.stamp; node = c.args.node; value = c.args.value }

added : (c : After-put_row)
    → OnOk c.put_row.result (InsertedLast c.args.self.now (row_in c) (indexed_rows c.put_row.new.columns))
added c =
    on_ok_weaker c.put_row.result
    (subst (λ old. InsertedLast old (row_in c) (indexed_rows c.put_row.new.columns)) c.self.view_is)
    c.put_row.ensures.ok

stayed : (c : After-put_row) → OnErr c.put_row.result (indexed_rows c.put_row.new.columns ≡ c.args.self.now)
stayed c = on_err_weaker c.put_row.result (λ same. same ∙ c.self.view_is) c.put_row.ensures.unchanged

pub invariant_of-self : goal.invariant_of-self
invariant_of-self c =
    let at = (goal.at.invariant_of-self c).After-put_row in (
      c.put_row.ensures.filled,
      either-IsRowSet c.put_row.result c.args.self.now (row_in at) _ (added at) (stayed at) c.requires
          (subst IsRowSet c.self.view_is c.self.invariant.1),
      c.put_row.ensures.sizes,
      c.put_row.ensures.fit,
    )

pub returns-clause-ok : goal.returns-clause-ok
returns-clause-ok c =
    let at = (goal.at.returns-clause-ok c).After-put_row in
    on_ok_weaker c.put_row.result (inserted-IsPermutation c.args.self.now (row_in at) _) (added at)

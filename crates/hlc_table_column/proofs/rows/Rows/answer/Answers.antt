-- Without a row there is no answer.
use Rattle.std.proofs.Common.{List, [], sym, ap, ◌∙◌}
use Rattle.hlc_rows.proofs.NewestLemmas.{answer_none}
use Rattle.hlc_table_column.specs.{Cells.Cell, Rows.rows_of, Forms.cells_in_form}
use Rattle.hlc_rows.specs.Rows.{answer}
use Rattle.hlc_table_column.proofs.FirstLemmas.{newest_nil}
use Rattle.hlc_table_column.proofs.rows.Rows.answer.Goals as goal

pub returns-in-Empty : goal.returns-in-Empty
returns-in-Empty c = λ key.
    let cells = ap cells_in_form c.in-Empty.is in
    sym (ap (λ (cs : List Cell). answer (rows_of key cs) key c.args.bound) (sym c.self.view_is ∙ cells)
    ∙ answer_none (rows_of key []) key c.args.bound (newest_nil key c.args.bound))

-- All rows of the key but the last are kept, and it has a row.
use Rattle.std.proofs.Common.{rules, ◌-◌, ◌∙◌, ◌∷◌, [], true, false, ap, sym, arith, length, replicate, take_all}
use Rattle.std.proofs.Common.{length-append}
use Rattle.std.proofs.lemmas.List.{length-map, length-replicate}
use Rattle.hlc_table_column.specs.Rows.{row_of, rows_with}
use Rattle.hlc_columns.{specs.Table.rows_kept, proofs.Removed.last_out, proofs.Removed.is_there}
use Rattle.hlc_columns.proofs.table.Table.remove_last.Goals as goal

pub returns-in_default : goal.returns-in_default
returns-in_default c old row own last =
    let some = is_there c.args.key.now old c.args.self.now row own last in
    let none = ap length (c.in_default.ensures.absent.0 (search rules)) in
    absurd (omega (arith, some, none))

pub returns : goal.returns
returns c old row own last =
    let many = c.len-rows.ensures ∙ sym (length-map c.in-Some.column (row_of c.args.key.now))
    ∙ ap length c.in-Some.ensures.rows in
    let some = is_there c.args.key.now old c.args.self.now row own last in
    let sets = length-replicate (c.len-rows.result - 1) true in
    let long = ap length c.run.ensures ∙ length-append (replicate (c.len-rows.result - 1) true) (false ∷ []) in
    c.keep_of.ensures.kept ∙ ap (λ flags. rows_kept c.args.key.now flags c.args.self.now)
    (take_all (length (rows_with c.args.key.now c.args.self.now)) c.run.result (omega (arith, many, some, sets, long))
    ∙ c.run.ensures)
    ∙ last_out c.args.key.now old c.args.self.now row (c.len-rows.result - 1) own last (omega (arith, many, some))

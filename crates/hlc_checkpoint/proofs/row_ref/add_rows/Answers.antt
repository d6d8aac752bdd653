-- One more row is added.
use Rattle.std.proofs.Common.{◌∙◌, ◌++◌, ◌∷◌, [], ap, sym, take, append_assoc, arith}
use Rattle.std.proofs.lemmas.List.{take_all, length-map}
use Rattle.hlc_table_column.specs.Rows.{row_of, rows_of}
use Rattle.hlc_checkpoint.proofs.Copied.{row_more}
use Rattle.hlc_checkpoint.proofs.row_ref.add_rows.Goals as goal

pub loop-place-preserved : goal.loop-place-preserved
loop-place-preserved c =
    let rows = rows_of c.args.key.now c.args.column.now in
    let place = c.loop-place.place in
    c.in_ok-push.ensures.items
    ∙ ap (λ xs. xs ++ c.at.result ∷ []) c.loop-place.invariant
    ∙ append_assoc c.args.rows.now.items (take place rows) (c.at.result ∷ [])
    ∙ ap (λ xs. c.args.rows.now.items ++ xs) (sym (row_more rows place c.at.result c.at.ensures))

pub returns : goal.returns
returns c =
    let past = c.loop-place-test.false in
    let end = c.len-place-end.ensures in
    let long = length-map c.args.column.now (row_of c.args.key.now) in
    c.loop-place.invariant
    ∙ ap (λ xs. c.args.rows.now.items ++ xs)
    (take_all c.loop-place.place (rows_of c.args.key.now c.args.column.now) (omega (arith, past, end, long)))

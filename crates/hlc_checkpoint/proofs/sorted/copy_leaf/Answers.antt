-- One more column is copied.
use Rattle.std.proofs.{Common.◌++◌, Common.◌∙◌, Common.ap, Common.ℕ, Common.List, Common.arith, lemmas.List.take_all}
use Rattle.hlc_table_column.specs.{Cells.Cell, Rows.rows_of, Rows.rows_in}
use Rattle.hlc_checkpoint.{specs.Sorted.rows_on, proofs.Copied.column_on}
use Rattle.hlc_checkpoint.proofs.sorted.copy_leaf.Goals as goal

pub loop-place-preserved : goal.loop-place-preserved
loop-place-preserved c =
    column_on c.args.side.now c.args.leaf.now c.loop-place.place c.at-one.result c.args.copies.now.items
    c.loop-place.copies.items c.copy_column.new.copies.items c.at-one.ensures c.loop-place.invariant
    (c.in_ok-copy_column.ensures ∙ ap
    (λ (k : List ℕ). c.loop-place.copies.items ++ rows_on c.args.side.now (rows_of k c.column.result)) c.key.ensures
    ∙ ap (λ (cells : List Cell). c.loop-place.copies.items
    ++ rows_on c.args.side.now (rows_of c.at-one.result.key cells)) c.column.ensures)

pub returns : goal.returns
returns c =
    let past = c.loop-place-test.false in
    let long = c.len-place-end.ensures in
    c.loop-place.invariant
    ∙ ap (λ leaf. c.args.copies.now.items ++ rows_on c.args.side.now (rows_in leaf))
    (take_all c.loop-place.place c.args.leaf.now (omega (arith, past, long)))

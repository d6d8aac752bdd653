-- The first columns have no more rows than all have.
use Rattle.std.proofs.Common.{◌≡◌, ◌++◌, ◌∙◌, ap, sym, arith, length, length-append, take, drop}
use Rattle.std.proofs.lemmas.{Grind.flat_map-append, List.take-append-drop}
use Rattle.hlc_table_column.specs.Rows.{rows_in, rows_in_one}
use Rattle.hlc_vacuum.proofs.ahead.rows_ahead.Goals as goal

pub returns : goal.returns
returns c =
    let columns = c.args.columns.now in
    let front = take c.loop-i.i columns in
    let back = drop c.loop-i.i columns in
    let whole : rows_in columns ≡ rows_in front ++ rows_in back =
    ap rows_in (sym (take-append-drop c.loop-i.i columns)) ∙ flat_map-append rows_in_one front back in
    let long = ap length whole ∙ length-append (rows_in front) (rows_in back) in
    let few = c.loop-i.invariant in
    omega (arith, few, long)

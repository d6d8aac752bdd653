-- One more leaf is copied.
use Rattle.std.proofs.{Common.◌∙◌, Common.ap, lemmas.List.take_all}
use Rattle.hlc_table_column.specs.Rows.{rows_in}
use Rattle.hlc_columns.specs.Table.{columns_in}
use Rattle.hlc_checkpoint.{specs.Sorted.rows_on, proofs.Copied.leaf_on}
use Rattle.hlc_checkpoint.proofs.sorted.copies_on.Goals as goal

pub loop-leaf-preserved : goal.loop-leaf-preserved
loop-leaf-preserved c =
    leaf_on c.args.side.now c.args.leaves.now c.loop-leaf.leaf-index c.leaf-item.result c.loop-leaf.copies.items
    c.copy_leaf.new.copies.items c.loop-leaf-test.true c.leaf-item.is c.loop-leaf.invariant c.in_ok-copy_leaf.ensures

pub returns : goal.returns
returns c =
    c.loop-leaf.invariant
    ∙ ap (λ leaves. rows_on c.args.side.now (rows_in (columns_in leaves)))
    (take_all c.loop-leaf.leaf-index c.args.leaves.now c.loop-leaf-test.false)

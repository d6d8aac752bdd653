-- An item may write each of the listed rows.
use Rattle.std.proofs.{Common.subst, Common.sym, lemmas.List.Sorted.All-permutation}
use Rattle.hlc_table_column.specs.Rows.{rows_in_one}
use Rattle.hlc_witness.specs.Cost.{IsInLimits, AreInLimits}
use Rattle.hlc_saved.proofs.leaf.append_column.Goals as goal

pub append_rows-requires : goal.append_rows-requires
append_rows-requires c =
    subst AreInLimits (sym c.as_slice.ensures.value)
    (All-permutation IsInLimits (rows_in_one c.args.one.now) c.list_column.new.rows.items
    c.in_ok-list_column.ensures.same c.requires.1)

-- The table is a row set, whose rows an item may write.
use Rattle.std.proofs.Common.{subst, sym}
use Rattle.hlc_rows.specs.Rows.{IsRowSet}
use Rattle.hlc_witness.specs.Cost.{AreInLimits}
use Rattle.hlc_columns.specs.Table.{columns_in}
use Rattle.hlc_checkpoint.{specs.StoreView.StoreView, proofs.LentLemmas.all-writable}
use Rattle.hlc_checkpoint.proofs.store_ref.StoreRef.leaves.Goals as goal

pub invariant_of-result : goal.invariant_of-result
invariant_of-result c =
    let is = sym c.in_ok-list.ensures.rows in
    all-writable (columns_in c.in_ok-list.list.items) (subst IsRowSet is c.in_ok-list.ensures.row_set)
    (subst AreInLimits is (subst (λ (k : StoreView). AreInLimits k.rows) (sym c.self.view_is) c.requires))

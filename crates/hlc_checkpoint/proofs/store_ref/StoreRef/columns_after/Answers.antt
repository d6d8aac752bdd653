-- The rows of these columns are among those of the table, which is a row set whose rows an item may write.
use Rattle.std.proofs.Common.{subst, sym}
use Rattle.hlc_witness.specs.Cost.{AreInLimits}
use Rattle.hlc_checkpoint.{specs.StoreView.StoreView, proofs.LentLemmas.next-writable}
use Rattle.hlc_checkpoint.proofs.store_ref.StoreRef.columns_after.Goals as goal

pub returns-clause-writable : goal.returns-clause-writable
returns-clause-writable c =
    next-writable _ c.args.key.now c.args.limit c.in_ok-columns.columns.items c.in_ok-columns.ensures.row_set
    (subst (λ (k : StoreView). AreInLimits k.rows) (sym c.self.view_is) c.requires) c.in_ok-columns.ensures.next

-- Some of the ascending keys still ascend.
use Rattle.std.{specs.List.Sorted.IsStrictlySortedBy, proofs.Common.subst, proofs.Common.sym}
use Rattle.hlc_table_index.specs.Entries.{key_cmp, keys_in, entries_in}
use Rattle.hlc_table_index.proofs.SlotLemmas.{ascend_kept}
use Rattle.hlc_table_index.proofs.index.Index.keep_filled.Goals as goal

pub invariant_of-self : goal.invariant_of-self
invariant_of-self g c =
    subst (λ es. IsStrictlySortedBy key_cmp (keys_in es)) (sym c.keep_filled.ensures)
    (ascend_kept (λ e. g.V.Filled.is_filled e.1) (entries_in c.self.inside.leaves) c.self.invariant)

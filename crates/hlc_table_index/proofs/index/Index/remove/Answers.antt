-- The keys of the other entries still ascend.
use Rattle.std.{specs.List.Sorted.IsStrictlySortedBy, proofs.Common.subst, proofs.Common.sym}
use Rattle.hlc_table_index.{specs.Entries.key_cmp, specs.Entries.keys_in, proofs.RemovalLemmas.ascend_removed}
use Rattle.hlc_table_index.proofs.index.Index.remove.Goals as goal

pub invariant_of-self : goal.invariant_of-self
invariant_of-self g c =
    subst (λ es. IsStrictlySortedBy key_cmp (keys_in es)) (sym c.remove.ensures)
    (ascend_removed c.self.inside.leaves c.args.self.now c.args.at c.args.slot c.self.view_is c.requires.leaf
    c.requires.inside c.self.invariant)

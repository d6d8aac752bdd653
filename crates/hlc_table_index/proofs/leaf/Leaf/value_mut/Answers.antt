-- Another value at a slot changes no key, and so no head.
use Rattle.std.proofs.Common.{ap₂, refl, set}
use Rattle.hlc_table_index.proofs.LeafLemmas.{leaf_valued, key_read, entry_read}
use Rattle.hlc_table_index.proofs.leaf.Leaf.value_mut.Goals as goal

pub invariant_of-self-lent : goal.invariant_of-self-lent
invariant_of-self-lent g c w =
    leaf_valued c.self.inside.heads.items c.self.inside.entries.items c.args.slot c.index_mut-entry.result.now w
    c.self.invariant
    c.index_mut-entry.ensures.value

pub returns : goal.returns
returns g c = (
  (
    refl,
    λ w. ap₂ (λ l k. set l c.args.slot (k, w)) c.self.view_is
        (key_read c.self.inside.entries.items c.args.self.now c.args.slot c.index_mut-entry.result.now c.self.view_is
        c.requires
        c.index_mut-entry.ensures.value),
  ),
  record {
    lends = tt;
    value = entry_read c.self.inside.entries.items c.args.self.now c.args.slot c.index_mut-entry.result.now
        c.self.view_is c.requires
        c.index_mut-entry.ensures.value;
  },
)

-- Heads and keys lose the same position.
use Rattle.hlc_table_index.proofs.RemovalLemmas.{leaf_without}
use Rattle.hlc_table_index.proofs.leaf.Leaf.remove.Goals as goal

pub invariant_of-self : goal.invariant_of-self
invariant_of-self g c =
    leaf_without c.self.inside.heads.items c.self.inside.entries.items c.remove.new.self.items
    c.remove-2.new.self.items c.args.slot c.self.invariant c.remove.ensures.by_index.2 c.remove-2.ensures.by_index.2

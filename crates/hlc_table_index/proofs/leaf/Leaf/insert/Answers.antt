-- One more head and one more key, at the same slot.
use Rattle.std.{proofs.Common.◌∙◌, proofs.Common.ap, proofs.Common.List, proofs.Common.ℕ, specs.List.insert}
use Rattle.hlc_table_index.proofs.LeafLemmas.{leaf_insert}
use Rattle.hlc_table_index.proofs.leaf.Leaf.insert.Goals as goal

pub invariant_of-self-in-Ok-insert : goal.invariant_of-self-in-Ok-insert
invariant_of-self-in-Ok-insert g c =
    leaf_insert c.self.inside.heads.items c.self.inside.entries.items c.insert-in-Ok-insert.new.self.items
    c.insert.new.self.items c.args.slot c.args.entry.0 c.args.entry.1 c.args.head c.self.invariant c.requires.head
    c.requires.bytes
    (c.in-Ok-insert-2.ensures.items ∙ ap (λ (hs : List ℕ). insert hs c.args.slot c.args.head) c.reserve.ensures.items)
    c.in-Ok-insert.ensures.items

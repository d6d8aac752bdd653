-- Heads and keys are split at the same slot.
use Rattle.std.proofs.Common.{◌∙◌, ◌++◌, ◌-◌, ap, drop, take, length, List, ℕ}
use Rattle.std.proofs.lemmas.List.{take_rest}
use Rattle.hlc_table_index.proofs.LeafLemmas.{leaf_take, leaf_drop}
use Rattle.hlc_table_index.proofs.leaf.Leaf.split_off.Goals as goal

pub invariant_of-result : goal.invariant_of-result
invariant_of-result g c =
    leaf_drop c.self.inside.heads.items c.self.inside.entries.items c.extend_from_slice.new.self.items
    c.in_ok-entries.entries.items c.args.slot c.self.invariant
    (c.in_ok-extend_from_slice.ensures.items
    ∙ ap (λ (l : List ℕ). l ++ take (length c.deref.result.now - c.args.slot) (drop c.args.slot c.deref.result.now))
    c.in_ok-heads.ensures.items
    ∙ take_rest c.deref.result.now c.args.slot ∙ ap (drop c.args.slot) c.deref.ensures.value)
    c.in_ok-entries.ensures.tail

pub invariant_of-self-2 : goal.invariant_of-self-2
invariant_of-self-2 g c =
    leaf_take c.self.inside.heads.items c.self.inside.entries.items c.truncate.new.self.items c.split_off.new.self.items
    c.args.slot c.self.invariant c.truncate.ensures.items c.in_ok-entries.ensures.items

-- The front part keeps its first key, and the back part begins with the key at the slot.
use Rattle.std.proofs.Common.{◌∙◌, ◌+◌, sym, ap, subst, arith, List, ℕ, [], length, get_or, insert}
use Rattle.hlc_table_index.proofs.Tops.{split_leaves, AreLeaves}
use Rattle.hlc_table_index.proofs.leaves.Leaves.split.Goals as goal

pub invariant_of-self-2 : goal.invariant_of-self-2
invariant_of-self-2 g c =
    let same = c.reserve-2.ensures.items in
    let long = ap length (same ∙ c.self.view_is) in
    let lt = c.requires.leaf in
    split_leaves c.self.inside.tops.items c.reserve-2.new.self.items c.insert.new.self.items c.insert-2.new.self.items
    c.args.at c.args.slot c.index_mut.result.now c.index.result.now c.split_off.new.self c.in_ok-back.back
    c.head-head.result
    (subst (AreLeaves c.self.inside.tops.items) (sym same) c.self.invariant) (omega (arith, lt, long))
    c.index_mut.ensures.value c.index.ensures c.in_ok-back.ensures.ok c.in_ok-back.ensures.back c.requires.front
    (let few = c.requires.back in let m = ap (λ l. length (get_or l c.args.at [])) (same ∙ c.self.view_is) in
    omega (arith, few, m))
    c.head-head.ensures.value c.head-head.ensures.bytes
    (c.in-Ok.ensures.items ∙ ap (λ (l : List ℕ). insert l (c.args.at + 1) c.head-head.result) c.reserve.ensures.items)
    c.in-Ok-insert.ensures.items

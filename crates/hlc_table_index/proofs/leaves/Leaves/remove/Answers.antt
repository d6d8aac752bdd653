-- The leaf and its top are removed if it is empty. Otherwise its first key changes only if the first entry is removed.
use Rattle.std.proofs.Common.{◌∙◌, ◌<◌, ap, refl, subst, arith, [], length}
use Rattle.hlc_table_index.specs.{Head.head_of, Head.AreBytes, Entries.first_key}
use Rattle.hlc_table_index.proofs.{Heads.length_keys, Tops.leaves_set, Tops.leaves_kept}
use Rattle.hlc_table_index.proofs.RemovalLemmas.{leaves_without, read_back, first_stays, entries_removed}
use Rattle.hlc_table_index.proofs.leaves.Leaves.remove.Goals as goal

pub invariant_of-self : goal.invariant_of-self
invariant_of-self g c =
    leaves_without c.self.inside.tops.items c.self.inside.leaves.items c.remove-then-len-eq0.new.self.items
    c.remove-then-len-eq0-2.new.self.items c.args.at c.remove.new.self c.self.invariant
    c.remove-then-len-eq0.ensures.by_index.2 c.remove-then-len-eq0-2.ensures.by_index.2

pub invariant_of-self-then-slot-eq0 : goal.invariant_of-self-then-slot-eq0
invariant_of-self-then-slot-eq0 g c =
    let back = read_back c.self.inside.leaves.items c.args.self.now c.args.at c.args.slot c.index_mut.result.now
    c.remove.new.self c.self.view_is c.requires.leaf c.index_mut.ensures.value c.remove.ensures in
    let seen = back c.index.result.now c.index.ensures in
    let same = back c.index-then-slot-eq0.result.now c.index-then-slot-eq0.ensures in
    let some : 0 < length c.remove.new.self =
    let none = c.if-len-eq0.false in let n = c.len.ensures in let m = ap length seen in omega (arith, none, n, m) in
    leaves_set c.self.inside.tops.items c.self.inside.leaves.items _ _ c.args.at c.remove.new.self c.head.result
    c.self.invariant some
    (subst (λ l. AreBytes (first_key l)) same (c.head.ensures.bytes 0 []
    (let m = ap length same in let n = length_keys c.index-then-slot-eq0.result.now in omega (arith, some, m, n))))
    (c.head.ensures.value ∙ ap (λ l. head_of (first_key l)) same) refl refl

pub invariant_of-self-else-slot-eq0 : goal.invariant_of-self-else-slot-eq0
invariant_of-self-else-slot-eq0 g c =
    let seen = read_back c.self.inside.leaves.items c.args.self.now c.args.at c.args.slot c.index_mut.result.now
    c.remove.new.self c.self.view_is c.requires.leaf c.index_mut.ensures.value c.remove.ensures c.index.result.now
    c.index.ensures in
    leaves_kept c.self.inside.tops.items c.self.inside.leaves.items _ c.args.at c.remove.new.self c.self.invariant
    (let lt = c.requires.leaf in let long = ap length c.self.view_is in omega (arith, lt, long))
    (let none = c.if-len-eq0.false in let n = c.len.ensures in let m = ap length seen in omega (arith, none, n, m))
    (first_stays c.self.inside.leaves.items c.args.self.now c.args.at c.args.slot c.index_mut.result.now
    c.remove.new.self c.self.view_is c.requires.leaf c.index_mut.ensures.value c.remove.ensures c.self.invariant.2
    c.if-slot-eq0.false) refl

pub returns-then-slot-eq0 : goal.returns-then-slot-eq0
returns-then-slot-eq0 g c =
    entries_removed c.self.inside.leaves.items c.args.self.now c.args.at c.args.slot c.index_mut.result.now
    c.remove.new.self c.self.view_is c.requires.leaf c.index_mut.ensures.value c.remove.ensures

pub returns-else-slot-eq0 : goal.returns-else-slot-eq0
returns-else-slot-eq0 g c =
    entries_removed c.self.inside.leaves.items c.args.self.now c.args.at c.args.slot c.index_mut.result.now
    c.remove.new.self c.self.view_is c.requires.leaf c.index_mut.ensures.value c.remove.ensures

-- The first key of the leaf changes only if the entry is inserted before all others.
use Rattle.std.proofs.Common.{◌∙◌, ◌<◌, ap, refl, subst, arith, length}
use Rattle.hlc_table_index.specs.Head.{head_of, AreBytes}
use Rattle.hlc_table_index.proofs.Tops.{leaves_set, leaves_kept, put_front, put_after, put_filled}
use Rattle.hlc_table_index.proofs.leaves.Leaves.insert.Goals as goal

pub invariant_of-self-then-slot-eq0 : goal.invariant_of-self-then-slot-eq0
invariant_of-self-then-slot-eq0 g c =
    let first = put_front c.index_mut.result.now c.insert.new.self c.args.slot c.args.entry c.in_ok-insert.ensures.ok
    c.if-slot-eq0.true in
    leaves_set c.self.inside.tops.items c.self.inside.leaves.items _ _ c.args.at c.insert.new.self c.args.head
    c.self.invariant
    (put_filled c.index_mut.result.now c.insert.new.self c.args.slot c.args.entry c.in_ok-insert.ensures.ok)
    (subst AreBytes first c.requires.bytes) (c.requires.head ∙ ap head_of first) refl refl

pub invariant_of-self-else-slot-eq0 : goal.invariant_of-self-else-slot-eq0
invariant_of-self-else-slot-eq0 g c =
    let long = ap length c.self.view_is in
    let lt = c.requires.leaf in
    let inside : c.args.at < length c.self.inside.leaves.items = omega (arith, lt, long) in
    leaves_kept c.self.inside.tops.items c.self.inside.leaves.items _ c.args.at c.insert.new.self c.self.invariant
    inside (put_filled c.index_mut.result.now c.insert.new.self c.args.slot c.args.entry c.in_ok-insert.ensures.ok)
    (put_after c.self.inside.leaves.items c.args.at c.index_mut.result.now c.insert.new.self c.args.slot c.args.entry
    c.self.invariant.2 inside c.index_mut.ensures.value c.in_ok-insert.ensures.ok c.if-slot-eq0.false) refl

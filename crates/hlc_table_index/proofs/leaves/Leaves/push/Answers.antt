-- One more leaf, of one entry.
use Rattle.std.proofs.Common.{◌∙◌, ◌++◌, ◌∷◌, [], ap, refl, subst, List, ℕ}
use Rattle.hlc_table_index.specs.Head.{head_of, AreBytes}
use Rattle.hlc_table_index.proofs.Tops.{leaves_push, put_front, put_filled}
use Rattle.hlc_table_index.proofs.leaves.Leaves.push.Goals as goal

pub invariant_of-self-2 : goal.invariant_of-self-2
invariant_of-self-2 g c =
    let first = put_front c.in-Ok-with_room.leaf c.insert.new.self 0 c.args.entry c.in_ok-insert.ensures.ok refl in
    leaves_push c.self.inside.tops.items c.self.inside.leaves.items _ _ c.insert.new.self c.args.head c.self.invariant
    (put_filled c.in-Ok-with_room.leaf c.insert.new.self 0 c.args.entry c.in_ok-insert.ensures.ok)
    (subst AreBytes first c.requires.bytes) (c.requires.head ∙ ap head_of first)
    (c.push_reserved.ensures.items ∙ ap (λ (l : List ℕ). l ++ c.args.head ∷ []) c.reserve.ensures.items)
    (c.push_reserved-2.ensures.items ∙ ap (λ l. l ++ c.insert.new.self ∷ []) c.reserve-2.ensures.items)

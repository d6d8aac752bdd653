-- One more leaf: it still has an entry and moves to the front, or it has none.
use Rattle.std.proofs.Common.{◌≡◌, ◌<◌, ◌∙◌, All, arith, length, subst, ap, sym, refl, filter, get_or-set_same}
use Rattle.hlc_table_index.specs.{Head.head_of, Head.AreBytes, Entries.keys_in, Entries.first_key}
use Rattle.hlc_table_index.proofs.Kept.{keeps_no, keeps_yes}
use Rattle.hlc_table_index.proofs.leaves.move_filled.Goals.{then-len-gt0, else-len-gt0}
use Rattle.hlc_table_index.proofs.leaves.move_filled.Goals as goal

pub loop-i-preserved : goal.loop-i-preserved
loop-i-preserved g c =
    let now = c.keep_filled.new.self in
    let lt : c.loop-i.i < length c.loop-i.leaves =
    let m = c.loop-i.invariant.long in let h = c.loop-i-test.true in omega (arith, h, m) in
    let is = c.keep_filled.ensures ∙ ap (filter (λ e. g.V.Filled.is_filled e.1)) (sym c.index-leaves-i.is) in
    let left : c.len.result ≡ length c.keep_filled.new.self =
    c.len.ensures ∙ ap length (get_or-set_same c.loop-i.leaves c.loop-i.i now c.index-leaves-i-in-loop-i.result lt) in
    elim c.if-len-gt0.branch [
      | then-len-gt0 w ↦
          let own = get_or-set_same c.loop-i.leaves c.loop-i.i now w.index-leaves-i-then-len-gt0.result lt in
          let some = w.if-len-gt0.true in
          rw (w.tops-is, w.leaves-is, w.kept-is) (keeps_yes (λ e. g.V.Filled.is_filled e.1) c.args.leaves.now
          c.loop-i.leaves c.loop-i.tops c.loop-i.kept c.loop-i.i c.index-leaves-i.result now c.loop-i.invariant lt
          c.index-leaves-i.is is w.head.result _ _ (omega (arith, some, left))
          (subst (λ l. All AreBytes (keys_in l)) own w.head.ensures.bytes)
          (w.head.ensures.value ∙ ap (λ l. head_of (first_key l)) own) refl w.swap.ensures.by_index)
      | else-len-gt0 w ↦
          let none = w.if-len-gt0.false in
          rw (w.tops-is, w.leaves-is, w.kept-is) (keeps_no (λ e. g.V.Filled.is_filled e.1) c.args.leaves.now
          c.loop-i.leaves c.loop-i.tops c.loop-i.kept c.loop-i.i c.index-leaves-i.result now c.loop-i.invariant lt
          c.index-leaves-i.is is (omega (arith, none, left)))
    ]

-- No leaf is empty, and so the last entry of the last leaf is the last of all.
use Rattle.std.proofs.Common.{◌≡◌, ◌-◌, ◌∙◌, ap, arith, subst, sym, Less, None, [], get_or, length}
use Rattle.std.specs.Map.{lookup}
use Rattle.hlc_table_index.specs.Entries.{keys_in, key_cmp, is_key, entries_in, IsEntryAt, IsGap}
use Rattle.hlc_table_index.proofs.{Heads.same_key, Places.gap_empty, Places.gap_end, Places.gap_absent}
use Rattle.hlc_table_index.proofs.index.Index.locate_last.{Given.Over, Goals.In-Less}
use Rattle.hlc_table_index.proofs.index.Index.locate_last.Goals as goal

pub returns-then-count-eq0-clause-gap : goal.returns-then-count-eq0-clause-gap
returns-then-count-eq0-clause-gap g c =
    subst (λ l. IsGap l c.args.key.now 0 0) c.self.view_is
    (gap_empty c.self.inside.leaves c.args.key.now (sym c.len-count.ensures ∙ c.if-count-eq0.true))

module _ (g : Over) (c : In-Less g) where
  end : IsGap c.self.inside.leaves c.args.key.now (c.len-count.result - 1) c.len-len.result
  end =
      gap_end c.self.inside.leaves c.len-count.result c.len-len.result c.args.key.now c.leaf-leaf.result.now
      c.if-count-eq0.false c.len-count.ensures c.leaf-leaf.ensures.value c.leaf-leaf.ensures.filled c.len-len.ensures
      (subst (λ k. key_cmp k c.args.key.now ≡ Less) c.key.ensures (sym c.cmp.ensures ∙ c.in-Less.is))

pub returns-in-Less-clause-gap : goal.returns-in-Less-clause-gap
returns-in-Less-clause-gap g c =
    subst (λ l. IsGap l c.args.key.now (c.len-count.result - 1) c.len-len.result) c.self.view_is
    (end g (goal.at.returns-in-Less-clause-gap g c).In-Less)

pub returns-in-Less-clause-absent : goal.returns-in-Less-clause-absent
returns-in-Less-clause-absent g c =
    subst (λ l. lookup (is_key c.args.key.now) (entries_in l) ≡ None) c.self.view_is
    (gap_absent c.self.inside.leaves c.args.key.now (c.len-count.result - 1) c.len-len.result c.self.invariant
    (end g (goal.at.returns-in-Less-clause-absent g c).In-Less))

pub returns-in-Equal-clause-found : goal.returns-in-Equal-clause-found
returns-in-Equal-clause-found g c =
    let some = c.if-count-eq0.false in
    let all = c.len-count.ensures in
    let filled = c.leaf-leaf.ensures.filled in
    let len = c.len-len.ensures in
    let own = ap length c.leaf-leaf.ensures.value in
    subst (λ l. IsEntryAt l c.args.key.now (c.len-count.result - 1) (c.len-len.result - 1)) c.self.view_is (
      omega (arith, some, all),
      omega (arith, filled, len, own),
      ap (λ l. get_or (keys_in l) (c.len-len.result - 1) []) (sym c.leaf-leaf.ensures.value)
          ∙ sym c.key.ensures ∙ same_key c.key.result.now c.args.key.now (sym c.cmp.ensures ∙ c.in-Equal.is),
    )

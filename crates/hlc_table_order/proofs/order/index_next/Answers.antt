-- The row is above the last of the index, and so above all of it.
use Rattle.std.proofs.Common.{◌≡◌, ◌-◌, ◌∷◌, ◌++◌, [], ◌∙◌, ℕ, List, length, get_or, subst, sym, arith, cond, true}
use Rattle.std.proofs.Common.{is_ok, false}
use Rattle.std.proofs.lemmas.List.{get_or_default}
use Rattle.hlc_table_order.{specs.Newest.NotAbove, specs.Order.IsIndex, proofs.PlaceLemmas.pushed_index}
use Rattle.hlc_table_order.proofs.order.index_next.Goals as goal

pub returns-then-is_below : goal.returns-then-is_below
returns-then-is_below c =
    let order = c.args.order.now.items in
    let ss = c.args.stamps.now in
    let ns = c.args.nodes.now in
    let o = c.args.order.now.ok in
    let e = c.len-count.ensures in
    let count : c.len-count.result ≡ length order = omega (arith, o, e) in
    let some = c.if-count-gt0.true in
    let last : NotAbove ss ns (get_or order (length order - 1) 0) (length order) =
    subst (λ n. NotAbove ss ns (get_or order (n - 1) 0) n) count
    (subst (λ (p : ℕ). NotAbove ss ns p c.len-count.result) (c.index.ensures
    ∙ sym (get_or_default order (c.len-count.result - 1) 0 c.index.result.now (omega (arith, some, count))))
    (c.is_below.ensures.below c.if-is_below.true)) in
    let pushed = pushed_index ss ns order c.requires.index c.requires.one (omega (arith, some, count)) last in
    subst (λ (l : List ℕ). IsIndex ss ns l) (sym c.push.ensures.items)
    (elim (is_ok c.push.result) as (λ b. IsIndex ss ns (cond b (order ++ c.len-count.result ∷ []) order)) [
      | true ↦ subst (λ n. IsIndex ss ns (order ++ n ∷ [])) (sym count) pushed
      | false ↦ c.requires.index
    ])

-- The first positions, each once, sorted, and as many as remain after the list is cut.
use Rattle.std.proofs.Common.{rules, ◌≡◌, ◌∙◌, ◌<◌, ℕ, List, [], length, take, min, nat_le, ap, arith, if◌then◌else◌}
use Rattle.std.proofs.Common.{length-take, is_lt}
use Rattle.std.proofs.lemmas.{Bool.lt-leb, Fn.always_returns_same, List.Sorted.length_permutation, List.Sorted.ranks_by}
use Rattle.hlc_table_order.specs.Order.{place_cmp}
use Rattle.hlc_table_order.proofs.PlaceLemmas.{sorted_index, numbered_below, numbered_every, place_order}
use Rattle.hlc_table_order.proofs.order.index_again.Goals as goal

pub returns-clause-index : goal.returns-clause-index
returns-clause-index c =
    let ss = c.args.stamps.now in
    let ns = c.args.nodes.now in
    let all = c.number.ensures in
    let xs = c.number.new.order.items in
    let long = all.1 in
    let cut = ap length c.truncate.ensures.items in
    let few = length-take (length ss) c.args.order.now.items in
    sorted_index ss ns xs c.sort_unstable_by.new.self.items c.sort_unstable_by.ensures.permutation
    (omega (arith, long, cut, few))
    (numbered_below [] xs _ all (omega arith) (λ k d lt. absurd (omega (arith, lt))))
    (numbered_every [] xs _ all (λ p lt. absurd (omega (arith, lt))))
    (c.sort_unstable_by.ensures.sorted (λ p q. is_lt (place_cmp ss ns p q))
    (ranks_by (place_order ss ns) (λ (p : ℕ). p)) (always_returns_same _
    (λ a r. is_lt r ≡ is_lt (place_cmp ss ns a.0.now a.1.0.now)) _ (λ a r f k. search rules)))

-- the number of positions that remain after a list is cut
many_left : (n m : ℕ) (xs : List ℕ) → 64 < n → m ≡ min n 4294967295
    → length (take m xs) ≡ (if nat_le n 64 then 0 else min (length xs) (min n 4294967295))
many_left n m xs above is = rw (lt-leb n 64 above) (omega (arith, length-take m xs, is))

pub returns-clause-many : goal.returns-clause-many
returns-clause-many c =
    length_permutation _ _ c.sort_unstable_by.ensures.permutation ∙ c.number.ensures.1
    ∙ ap length c.truncate.ensures.items
    ∙ many_left (length c.args.stamps.now) c.min.result c.args.order.now.items c.if-stamps-le-LEAST.false c.min.ensures

-- The front is below the least new stamp and does not change; the end is not below it, and is sorted. If memory runs
-- out, the positions that were added are cut off.
use Rattle.std.proofs.Common.{◌≡◌, ◌≤◌, ◌<◌, ◌∙◌, ℕ, List, length, get_or, subst, sym, ap, take, drop, arith}
use Rattle.std.proofs.Common.{length-drop}
use Rattle.std.proofs.lemmas.List.Sorted.{length_permutation}
use Rattle.hlc_table_order.specs.Order.{IsIndex, IsNumbered}
use Rattle.hlc_table_order.proofs.PlaceLemmas.{numbered_front, tail_index}
use Rattle.hlc_table_order.proofs.order.index_all.Goals as goal

pub count_below-from-requires : goal.count_below-from-requires
count_below-from-requires c =
    subst (λ (l : List ℕ). IsIndex c.args.stamps.now c.args.nodes.now l) (sym c.as_slice.ensures.value) c.requires

pub replace_tail-requires-clause-alike : goal.replace_tail-requires-clause-alike
replace_tail-requires-clause-alike c =
    let xs = c.add_places-added.new.order.items in
    let all : IsNumbered c.args.order.now.items xs (length c.args.stamps.now) =
    c.add_places-added.ensures.yes c.if-not-added.false in
    let long = all.1 in
    let few = c.count_below-from.ensures.few in
    let was = ap length c.as_slice.ensures.value in
    let room = c.requires.0 in
    let same = length_permutation (drop c.count_below-from.result xs) c.in-Ok.tail.items c.in-Ok.ensures.same in
    let rest = length-drop c.count_below-from.result xs in
    omega (arith, long, few, was, room, same, rest)

pub returns-then-not-added : goal.returns-then-not-added
returns-then-not-added c = subst (λ (l : List ℕ). IsIndex c.args.stamps.now c.args.nodes.now l)
    (sym (c.add_places-added.ensures.no c.if-not-added.true)) c.requires

pub returns-in-Err : goal.returns-in-Err
returns-in-Err c =
    let order = c.args.order.now.items in
    let o = c.args.order.now.ok in
    let e = c.len-count.ensures in
    let count : c.len-count.result ≡ length order = omega (arith, o, e) in
    subst (λ (l : List ℕ). IsIndex c.args.stamps.now c.args.nodes.now l)
    (sym (c.truncate.ensures.items ∙ ap (λ n. take n c.add_places-added.new.order.items) count
    ∙ numbered_front order c.add_places-added.new.order.items (length c.args.stamps.now)
    (c.add_places-added.ensures.yes c.if-not-added.false)))
    c.requires

pub returns-in-Ok : goal.returns-in-Ok
returns-in-Ok c =
    let order = c.args.order.now.items in
    let ss = c.args.stamps.now in
    let ns = c.args.nodes.now in
    let from = c.count_below-from.result in
    let least = c.least_from-least.result in
    let xs = c.add_places-added.new.order.items in
    let o = c.args.order.now.ok in
    let e = c.len-count.ensures in
    let was = c.as_slice.ensures.value in
    let count : c.len-count.result ≡ length order = omega (arith, o, e) in
    subst (λ (l : List ℕ). IsIndex ss ns l) (sym c.replace_tail.ensures)
    (tail_index ss ns order xs c.in-Ok.tail.items from least c.requires
    (c.add_places-added.ensures.yes c.if-not-added.false)
    (subst (λ (l : List ℕ). from ≤ length l) was c.count_below-from.ensures.few)
    (λ i lt. subst (λ (l : List ℕ). get_or ss (get_or l i 0) 0 < least) was (c.count_below-from.ensures.below i lt))
    (λ i le lt. subst (λ (l : List ℕ). least ≤ get_or ss (get_or l i 0) 0) was
    (c.count_below-from.ensures.above i le (subst (λ (l : List ℕ). i < length l) (sym was) lt)))
    (λ p le lt. c.least_from-least.ensures p (subst (λ n. n ≤ p) (sym count) le) lt)
    c.in-Ok.ensures.same c.in-Ok.ensures.rises)

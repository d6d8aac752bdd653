-- A list that is sorted by stamp, node and the later position ascends.
use Rattle.std.proofs.{Common.rules, Common.◌≡◌, Common.ℕ, lemmas.Fn.always_returns_same, lemmas.List.Sorted.ranks_by}
use Rattle.std.specs.Ordering.{is_lt}
use Rattle.hlc_table_order.{specs.Order.place_cmp, proofs.PlaceLemmas.sorted_rises, proofs.PlaceLemmas.place_order}
use Rattle.hlc_table_order.proofs.order.sorted_tail.Goals as goal

pub returns-clause-rises : goal.returns-clause-rises
returns-clause-rises c =
    let ss = c.args.stamps.now in
    let ns = c.args.nodes.now in
    sorted_rises ss ns c.sort_by.new.self.items
    (c.in_ok-sort_by.ensures.sorted (λ p q. is_lt (place_cmp ss ns p q)) (ranks_by (place_order ss ns) (λ (p : ℕ). p))
    (always_returns_same _ (λ a r. is_lt r ≡ is_lt (place_cmp ss ns a.0.now a.1.0.now)) _
    (λ a r f k. search rules)))

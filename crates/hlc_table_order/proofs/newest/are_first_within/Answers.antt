-- The last of them is above none before it.
use Rattle.std.proofs.Common.{◌≡◌, ◌∙◌, ◌≤◌, ◌<◌, ◌-◌, length, get_or, ap, sym, subst, arith, ltb-true, leb-true}
use Rattle.std.proofs.lemmas.List.{get_or_default}
use Rattle.hlc_table_order.proofs.PlaceLemmas.{first_within}
use Rattle.hlc_table_order.proofs.newest.are_first_within.Goals as goal

pub returns-in-Some-clause-within : goal.returns-in-Some-clause-within
returns-in-Some-clause-within c = λ holds.
    let last : c.args.count - 1 < length c.args.order.now =
    ltb-true (c.args.count - 1) (length c.args.order.now) (sym c.in-Some.ensures.lookup.0) in
    let low : c.stamp_at.result ≤ c.args.bound = leb-true c.stamp_at.result c.args.bound holds in
    let found = c.in-Some.ensures.lookup.1 in
    let place : c.in-Some.place.now ≡ get_or c.args.order.now (c.args.count - 1) 0 =
    found ∙ get_or_default c.args.order.now (c.args.count - 1) c.in-Some.place.now 0 last in
    first_within c.args.stamps.now c.args.nodes.now c.args.order.now c.args.bound c.args.count c.requires
    (let differs = c.if-count-eq0.false in omega (arith, differs)) (omega (arith, last))
    (subst (λ s. s ≤ c.args.bound) (c.stamp_at.ensures ∙ ap (λ p. get_or c.args.stamps.now p 0) place) low)

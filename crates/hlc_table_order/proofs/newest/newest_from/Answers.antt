-- The rest has no row at or below the bound, or its newest stamp is below the first's, or the first place of that
-- stamp's greatest node is the newest of the rest.
use Rattle.std.proofs.Common.{◌-◌, List, ℕ, take, drop, length, None, Some, subst}
use Rattle.hlc_lanes.specs.Newest.{IsNewest}
use Rattle.hlc_table_order.specs.Newest.{IsGreatestAt}
use Rattle.hlc_table_order.proofs.Best.{rest_of, none_in_rest, rest_is_below, no_top, top_of_rest}
use Rattle.hlc_table_order.proofs.newest.newest_from.Goals as goal

pub returns-in_default : goal.returns-in_default
returns-in_default c =
    none_in_rest c.args.stamps.now c.args.nodes.now c.args.bound c.args.from c.args.first
    c.requires.from c.requires.first
    (subst (λ (xs : List ℕ). IsNewest xs c.args.bound None)
    (rest_of c.args.stamps.now c.args.from) c.in_default.ensures)

pub returns-then-is_above : goal.returns-then-is_above
returns-then-is_above c =
    rest_is_below c.args.stamps.now c.args.nodes.now c.args.bound c.args.from c.in-Some.stamp c.args.first
    c.requires.from c.requires.first
    (subst (λ (xs : List ℕ). IsNewest xs c.args.bound (Some c.in-Some.stamp))
    (rest_of c.args.stamps.now c.args.from) c.in-Some.ensures) (c.is_above.ensures.0 c.if-is_above.true)

pub returns-in_default-greatest_place : goal.returns-in_default-greatest_place
returns-in_default-greatest_place c =
    let ss = c.args.stamps.now in
    let ns = c.args.nodes.now in
    absurd (no_top (take (length ss - c.args.from) (drop c.args.from ss))
    (take (length ns - c.args.from) (drop c.args.from ns)) c.args.bound c.in-Some.stamp c.in-Some.ensures
    c.in_default-greatest_place.ensures)

pub returns : goal.returns
returns c =
    let ss = c.args.stamps.now in
    let ns = c.args.nodes.now in
    let i = c.in-Some-greatest_place.place in
    top_of_rest ss ns c.args.bound c.args.from c.in-Some.stamp i c.newer.result c.args.first c.requires.from
    c.requires.beside c.requires.first
    (subst (λ (xs : List ℕ). IsNewest xs c.args.bound (Some c.in-Some.stamp))
    (rest_of ss c.args.from) c.in-Some.ensures)
    (subst (λ (xs : List ℕ). IsGreatestAt xs (drop c.args.from ns) c.in-Some.stamp (Some i)) (rest_of ss c.args.from)
    (subst (λ (xs : List ℕ). IsGreatestAt (take (length ss - c.args.from) (drop c.args.from ss)) xs c.in-Some.stamp
    (Some i)) (rest_of ns c.args.from) c.in-Some-greatest_place.ensures))
    c.newer.ensures.one c.newer.ensures.later c.newer.ensures.best

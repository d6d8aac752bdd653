-- The least floor so far is that of all stores in the end.
use Rattle.std.proofs.Common.{◌≡◌, ◌+◌, length, Some, refl, ap, sym, subst, arith}
use Rattle.std.{specs.Prelude.slice_get, proofs.lemmas.Option.slice_get_read}
use Rattle.hlc_routing.specs.Ranges.{RangesView}
use Rattle.hlc_routing.proofs.Floors.{IsLeastTo, first, next, least, is-cut}
use Rattle.hlc_routing.proofs.ranges.Ranges.cut.Goals as goal

pub loop-index-init : goal.loop-index-init
loop-index-init c =
    first c.args.self.now c.floor-least.result c.index.result.now
    (subst (λ (v : RangesView). slice_get v.stores 0 ≡ Some c.index.result.now) c.self.view_is
    (slice_get_read c.self.inside.stores.items _ 0 c.index.result.now refl c.self.invariant.1 c.index.ensures))
    c.floor-least.ensures.value c.floor-least.ensures.represents

pub loop-index-preserved : goal.loop-index-preserved
loop-index-preserved c =
    subst (λ k. IsLeastTo c.args.self.now (c.loop-index.index + 1) k) (sym c.lesser-lower.ensures)
    (next c.args.self.now c.loop-index.index c.loop-index.least c.floor-floor.result c.index-in-loop-index.result.now
    c.loop-index.invariant
    (subst (λ (v : RangesView). slice_get v.stores c.loop-index.index ≡ Some c.index-in-loop-index.result.now)
    c.self.view_is
    (slice_get_read c.self.inside.stores.items _ c.loop-index.index c.index-in-loop-index.result.now refl
    (omega arith) c.index-in-loop-index.ensures))
    c.floor-floor.ensures.value c.floor-floor.ensures.represents)

pub returns-clause-least : goal.returns-clause-least
returns-clause-least c =
    let e : length c.self.inside.stores.items ≡ length c.args.self.now.stores =
    ap (λ (v : RangesView). length v.stores) c.self.view_is in
    least c.args.self.now c.loop-index.index c.loop-index.least (omega arith) c.loop-index.invariant

pub returns-clause-cut : goal.returns-clause-cut
returns-clause-cut c =
    let e : length c.self.inside.stores.items ≡ length c.args.self.now.stores =
    ap (λ (v : RangesView). length v.stores) c.self.view_is in
    is-cut c.args.self.now c.loop-index.index c.loop-index.least (omega arith) c.loop-index.invariant

pub returns-clause-consistent : goal.returns-clause-consistent
returns-clause-consistent c = λ layout run h.
    let e : length c.self.inside.stores.items ≡ length c.args.self.now.stores =
    ap (λ (v : RangesView). length v.stores) c.self.view_is in
    c.cuts_are_consistent.ensures layout run c.loop-index.least h.legal
    (is-cut c.args.self.now c.loop-index.index c.loop-index.least (omega arith) c.loop-index.invariant layout run h)

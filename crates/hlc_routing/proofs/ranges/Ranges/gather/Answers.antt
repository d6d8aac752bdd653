-- One store more: it has the keys that belong to it, with the answers of its past.
use Rattle.std.proofs.Common.{◌≡◌, ℕ, ◌<◌, List, length, get_or, Some, refl, ap, sym, ◌∙◌, subst, arith}
use Rattle.std.specs.Prelude.{slice_get, option_copied}
use Rattle.std.proofs.lemmas.{Grind.common_steps, Option.gets, Option.slice_get_read}
use Rattle.hlc_core.specs.{Past.stamp_of, View.Views, StoreView.StoreView}
use Rattle.hlc_ranges.specs.Run.{past_of}
use Rattle.hlc_routing.proofs.Gathered.{none-gathered, next-seen, seen-shut}
use Rattle.hlc_routing.proofs.ranges.Ranges.gather.Goals as goal

pub loop-store-init : goal.loop-store-init
loop-store-init c = λ layout run h open'.
    none-gathered layout run c.args.snapshot.now.stamp c.args.from.now (option_copied c.args.to) c.args.pairs.now.items
    c.requires

pub returns-in_default-at-clause-err : goal.returns-in_default-at-clause-err
returns-in_default-at-clause-err c = λ layout run h open'.
    let store : ℕ = c.loop-store.store in
    let a : length c.stores-stores.result.now ≡ length c.args.self.now.stores =
    ap length c.stores-stores.ensures.value in
    let b : length c.stores.result.now ≡ length c.args.self.now.stores = ap length c.stores.ensures.value in
    let many : length c.args.self.now.stores ≡ layout.stores = h.many in
    let within : store < length c.stores.result.now = omega (arith, c.loop-store-test.true, a, b) in
    let inside : store < layout.stores = omega (arith, within, b, many) in
    let at : slice_get c.args.self.now.stores store ≡ Some c.index-stores-store.result =
    subst (λ (xs : List StoreView). slice_get xs store ≡ Some c.index-stores-store.result) c.stores.ensures.value
    (slice_get_read c.stores.result.now _ store c.index-stores-store.result refl within c.index-stores-store.is) in
    let read' : get_or c.ids.result.now store 0 ≡ c.in-Some.id.now = grind (arith, common_steps, gets) in
    let id-is : get_or c.args.snapshot.now.ids store 0 ≡ c.in-Some.id.now =
    ap (λ (xs : List ℕ). get_or xs store 0) (sym c.ids.ensures) ∙ read' in
    absurd (seen-shut c.in-Some.id.now (past_of layout store run) c.args.snapshot.now.stamp c.at.result
    (c.at.ensures (past_of layout store run) (h.pasts store c.index-stores-store.result at))
    (subst (λ id. stamp_of id (past_of layout store run) ≡ Some
    c.args.snapshot.now.stamp) id-is (open'.each store inside))
    c.in_default-at.is)

pub loop-store-preserved : goal.loop-store-preserved
loop-store-preserved c = λ layout run h open'.
    let store : ℕ = c.loop-store.store in
    let a : length c.stores-stores.result.now ≡ length c.args.self.now.stores =
    ap length c.stores-stores.ensures.value in
    let b : length c.stores.result.now ≡ length c.args.self.now.stores = ap length c.stores.ensures.value in
    let many : length c.args.self.now.stores ≡ layout.stores = h.many in
    let within : store < length c.stores.result.now = omega (arith, c.loop-store-test.true, a, b) in
    let inside : store < layout.stores = omega (arith, within, b, many) in
    let at : slice_get c.args.self.now.stores store ≡ Some c.index-stores-store.result =
    subst (λ (xs : List StoreView). slice_get xs store ≡ Some c.index-stores-store.result) c.stores.ensures.value
    (slice_get_read c.stores.result.now _ store c.index-stores-store.result refl within c.index-stores-store.is) in
    let read' : get_or c.ids.result.now store 0 ≡ c.in-Some.id.now = grind (arith, common_steps, gets) in
    let id-is : get_or c.args.snapshot.now.ids store 0 ≡ c.in-Some.id.now =
    ap (λ (xs : List ℕ). get_or xs store 0) (sym c.ids.ensures) ∙ read' in
    next-seen layout run c.args.snapshot.now.stamp c.args.from.now (option_copied c.args.to) store c.in-Some.id.now
    c.in-Some-at.view c.loop-store.pairs.items c.in_ok-more.more.items c.append.new.self.items
    (λ s k stamp other. c.keys_stay_in_their_store.ensures layout run s k stamp h.legal other)
    (c.loop-store.invariant layout run h open')
    (subst (λ o. Views c.in-Some.id.now (past_of layout store run) o) c.in-Some-at.is
    (c.at.ensures (past_of layout store run) (h.pasts store c.index-stores-store.result at)))
    (subst (λ id. stamp_of id (past_of layout store run) ≡ Some
    c.args.snapshot.now.stamp) id-is (open'.each store inside))
    c.in_ok-more.ensures c.in_ok-append.ensures.items

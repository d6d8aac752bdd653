-- Each store was asked, or one has it not open.
use Rattle.std.proofs.Common.{◌≡◌, ◌<◌, length, true, false, refl, ap, subst, arith, rules, is_some}
use Rattle.hlc_routing.proofs.OpenAll.{IsOpenUpto, open-here, open-all, open-next, id-open, id-shut}
use Rattle.hlc_routing.proofs.ranges.Ranges.is_open_all.Goals as goal

pub returns-then-is_none : goal.returns-then-is_none
returns-then-is_none c = λ layout run h. (
  λ t. absurd (let e : false ≡ true = t in cc),
  λ all'.
      let a : length c.stores-stores.result.now ≡ length c.args.self.now.stores =
      ap length c.stores-stores.ensures.value in
      let many : length c.args.self.now.stores ≡ layout.stores = h.many in
      let inside : c.loop-store.store < layout.stores = omega (arith, c.loop-store-test.true, a, many) in
      let none : is_some c.id_in.result ≡ false = search rules in
      absurd (id-shut layout c.args.snapshot.now run c.loop-store.store c.id_in.result (c.id_in.ensures layout run h)
      none
      (open-here layout c.args.snapshot.now run c.loop-store.store all' inside)),
)

pub loop-store-preserved : goal.loop-store-preserved
loop-store-preserved c = λ layout run h.
    let some : is_some c.id_in.result ≡ true = search rules in
    open-next layout c.args.snapshot.now run c.loop-store.store (c.loop-store.invariant layout run h)
    (id-open layout c.args.snapshot.now run c.loop-store.store c.id_in.result (c.id_in.ensures layout run h)
    some)

pub returns : goal.returns
returns c = λ layout run h. (
  λ t.
      let a : length c.stores-stores.result.now ≡ length c.args.self.now.stores =
      ap length c.stores-stores.ensures.value in
      let b : length c.ids.result.now ≡ length c.args.snapshot.now.ids = ap length c.ids.ensures in
      let many : length c.args.self.now.stores ≡ layout.stores = h.many in
      let as_many : length c.ids.result.now ≡ length c.stores-stores.result.now = omega arith in
      let last : c.loop-store.store ≡ layout.stores = omega arith in
      open-all layout c.args.snapshot.now run (omega (arith, a, b, many, as_many))
      (subst (IsOpenUpto layout c.args.snapshot.now run) last (c.loop-store.invariant layout run h)),
  λ all'. refl,
)

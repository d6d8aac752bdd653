-- One store after another opens the snapshot, or refuses it.
use Rattle.std.proofs.Common.{◌≡◌, ◌+◌, ◌<◌, length, refl, ap, ◌∙◌, subst, arith, length-append}
use Rattle.hlc_routing.specs.{Ranges.OpensIn, All.each_stepped}
use Rattle.hlc_routing.proofs.Opening.{opening, none-opened, one-opened, one-refused}
use Rattle.hlc_routing.proofs.ranges.Ranges.open_each.Goals as goal

pub loop-store-init : goal.loop-store-init
loop-store-init c =
    let e : length c.stores-many.result.now ≡ length c.args.self.now.stores = ap length c.stores-many.ensures.value in
    record {
      division = refl;
      counted = ap length c.requires.empty;
      room = omega arith;
      opened = λ layout run h.
          none-opened layout c.args.self.now c.args.stamp run c.args.ids.now.items c.requires.empty h;
    }

pub loop-store-preserved : goal.loop-store-preserved
loop-store-preserved c = record {
  division = c.open.ensures.division ∙ c.loop-store.invariant.division;
  counted = rw (c.push_reserved.ensures.items, length-append) (ap (λ n. n + 1) c.loop-store.invariant.counted);
  room = omega (arith, c.push_reserved.ensures.capacity, c.loop-store.invariant.room);
  opened = λ layout run h.
      let before = each_stepped (opening c.args.stamp) c.loop-store.store run in
      let inv = c.loop-store.invariant.opened layout run h in
      rw c.push_reserved.ensures.items
      (one-opened layout c.loop-store.self c.open.new.self c.args.stamp run c.loop-store.ids.items c.loop-store.store
      c.in-Ok.id inv
      (subst (λ r. OpensIn layout c.loop-store.self c.open.new.self c.loop-store.store c.args.stamp before r) c.in-Ok.is
      (c.open.ensures.represents layout before inv.stepped.represents)));
}

pub returns-in-Err-clause-err : goal.returns-in-Err-clause-err
returns-in-Err-clause-err c = λ layout run h.
    let before = each_stepped (opening c.args.stamp) c.loop-store.store run in
    let inv = c.loop-store.invariant.opened layout run h in
    let e : length c.stores-many.result.now ≡ length c.args.self.now.stores = ap length c.stores-many.ensures.value in
    let many : length c.args.self.now.stores ≡ layout.stores = h.many in
    let inside : c.loop-store.store < layout.stores = omega arith in
    one-refused layout c.loop-store.self c.open.new.self c.args.stamp run c.loop-store.ids.items c.loop-store.store
    c.in-Err.fault inside inv
    (subst (λ r. OpensIn layout c.loop-store.self c.open.new.self c.loop-store.store c.args.stamp before r) c.in-Err.is
    (c.open.ensures.represents layout before inv.stepped.represents)) c.in-Err.ensures.unchanged

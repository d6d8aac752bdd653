-- The node joins one store after another, or a store refuses it.
use Rattle.std.proofs.Common.{◌≡◌, ◌+◌, ◌<◌, length, refl, ap, ◌∙◌, subst, arith, length-append}
use Rattle.hlc_routing.specs.All.{each_stepped, JoinsIn, HaveStepped, AreJoins, join_refusals, join_step}
use Rattle.hlc_routing.proofs.Joining.{none-joined, one-joined, one-not_joined}
use Rattle.hlc_routing.proofs.ranges.Ranges.join_each.Goals as goal

pub loop-store-init : goal.loop-store-init
loop-store-init c =
    let e : length c.stores-stores.result.now ≡ length c.args.self.now.stores =
    ap length c.stores-stores.ensures.value in
    record {
      division = refl;
      many = ap length c.requires.empty;
      room = omega arith;
      joined = λ layout run h. none-joined layout c.args.self.now run c.args.made.now.items c.requires.empty h;
    }

pub loop-store-preserved : goal.loop-store-preserved
loop-store-preserved c = record {
  division = c.join_in.ensures.division ∙ c.loop-store.invariant.division;
  many = rw (c.push_reserved.ensures.items, length-append) (ap (λ n. n + 1) c.loop-store.invariant.many);
  room = omega (arith, c.push_reserved.ensures.capacity, c.loop-store.invariant.room);
  joined = λ layout run h.
      let before = each_stepped (join_step layout run) c.loop-store.store run in
      let inv = c.loop-store.invariant.joined layout run h in
      rw c.push_reserved.ensures.items
      (one-joined layout c.loop-store.self c.join_in.new.self run c.loop-store.made.items c.loop-store.store
      c.in-Ok.node inv
      (subst (λ r. JoinsIn layout c.loop-store.self c.join_in.new.self c.loop-store.store before r) c.in-Ok.is
      (c.join_in.ensures.represents layout before inv.stepped.represents)));
}

pub returns-in-Err-clause-err : goal.returns-in-Err-clause-err
returns-in-Err-clause-err c = λ layout run h.
    let before = each_stepped (join_step layout run) c.loop-store.store run in
    let inv = c.loop-store.invariant.joined layout run h in
    let e : length c.stores-stores.result.now ≡ length c.args.self.now.stores =
    ap length c.stores-stores.ensures.value in
    let many : length c.args.self.now.stores ≡ layout.stores = h.many in
    let inside : c.loop-store.store < layout.stores = omega arith in
    one-not_joined layout c.loop-store.self c.join_in.new.self run c.loop-store.made.items c.loop-store.store
    c.in-Err.fault inside inv
    (subst (λ r. JoinsIn layout c.loop-store.self c.join_in.new.self c.loop-store.store before r) c.in-Err.is
    (c.join_in.ensures.represents layout before inv.stepped.represents)) c.in-Err.ensures.unchanged

pub returns-clause-ok : goal.returns-clause-ok
returns-clause-ok c = λ layout run h.
    let inv = c.loop-store.invariant.joined layout run h in
    let e : length c.stores-stores.result.now ≡ length c.args.self.now.stores =
    ap length c.stores-stores.ensures.value in
    let many : length c.args.self.now.stores ≡ layout.stores = h.many in
    let all' : c.loop-store.store ≡ layout.stores = omega arith in (
      subst (λ n. HaveStepped layout c.loop-store.self run (join_refusals layout run) (join_step layout run) n) all'
          inv.stepped,
      subst (λ n. AreJoins layout run c.loop-store.made.items n) all' inv.joins,
    )

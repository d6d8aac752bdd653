-- One store after another is vacuumed, or refuses it.
use Rattle.std.proofs.Common.{◌≡◌, ◌+◌, ◌<◌, length, refl, ap, ◌∙◌, subst, arith, length-append}
use Rattle.hlc_routing.specs.All.{each_stepped, VacuumsIn, HaveStepped, AreReports, vacuum_refusals}
use Rattle.hlc_routing.proofs.Vacuuming.{vacuuming, none-vacuumed, one-vacuumed, one-not_vacuumed}
use Rattle.hlc_routing.proofs.ranges.Ranges.vacuum_each.Goals as goal

pub loop-store-init : goal.loop-store-init
loop-store-init c =
    let e : length c.stores-stores.result.now ≡ length c.args.self.now.stores =
    ap length c.stores-stores.ensures.value in
    record {
      division = refl;
      many = ap length c.requires.empty;
      room = omega arith;
      vacuumed = λ layout run h.
          none-vacuumed layout c.args.self.now c.args.at run c.args.reports.now.items c.requires.empty h;
    }

pub loop-store-preserved : goal.loop-store-preserved
loop-store-preserved c = record {
  division = c.vacuum_in.ensures.division ∙ c.loop-store.invariant.division;
  many = rw (c.push_reserved.ensures.items, length-append) (ap (λ n. n + 1) c.loop-store.invariant.many);
  room = omega (arith, c.push_reserved.ensures.capacity, c.loop-store.invariant.room);
  vacuumed = λ layout run h.
      let before = each_stepped (vacuuming c.args.at) c.loop-store.store run in
      let inv = c.loop-store.invariant.vacuumed layout run h in
      rw c.push_reserved.ensures.items
      (one-vacuumed layout c.loop-store.self c.vacuum_in.new.self c.args.at run c.loop-store.reports.items
      c.loop-store.store c.in-Ok.report inv
      (subst (λ r. VacuumsIn layout c.loop-store.self c.vacuum_in.new.self c.loop-store.store c.args.at before r)
      c.in-Ok.is (c.vacuum_in.ensures.represents layout before inv.stepped.represents))
      c.vacuum_in.ensures.others);
}

pub returns-in-Err-clause-err : goal.returns-in-Err-clause-err
returns-in-Err-clause-err c = λ layout run h.
    let before = each_stepped (vacuuming c.args.at) c.loop-store.store run in
    let inv = c.loop-store.invariant.vacuumed layout run h in
    let e : length c.stores-stores.result.now ≡ length c.args.self.now.stores =
    ap length c.stores-stores.ensures.value in
    let many : length c.args.self.now.stores ≡ layout.stores = h.many in
    let inside : c.loop-store.store < layout.stores = omega arith in
    one-not_vacuumed layout c.loop-store.self c.vacuum_in.new.self c.args.at run c.loop-store.reports.items
    c.loop-store.store c.in-Err.fault inside inv
    (subst (λ r. VacuumsIn layout c.loop-store.self c.vacuum_in.new.self c.loop-store.store c.args.at before r)
    c.in-Err.is (c.vacuum_in.ensures.represents layout before inv.stepped.represents)) c.in-Err.ensures.unchanged

pub returns-clause-ok : goal.returns-clause-ok
returns-clause-ok c = λ layout run h.
    let inv = c.loop-store.invariant.vacuumed layout run h in
    let e : length c.stores-stores.result.now ≡ length c.args.self.now.stores =
    ap length c.stores-stores.ensures.value in
    let many : length c.args.self.now.stores ≡ layout.stores = h.many in
    let all' : c.loop-store.store ≡ layout.stores = omega arith in (
      subst (λ n. HaveStepped layout c.loop-store.self run (vacuum_refusals layout run c.args.at) (vacuuming
          c.args.at) n)
          all' inv.stepped,
      subst (λ n. AreReports layout c.loop-store.self c.args.at run c.loop-store.reports.items n) all' inv.made,
    )

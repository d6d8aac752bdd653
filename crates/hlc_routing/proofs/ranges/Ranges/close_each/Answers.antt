-- One store after another closes its snapshot.
use Rattle.std.proofs.Common.{◌≡◌, refl, sym, ◌∙◌, subst, arith, length, IsTrue, ◌↔◌}
use Rattle.hlc_routing.specs.{Ranges.Represents, All.each_closed, All.AreOpenUpto}
use Rattle.hlc_routing.proofs.Closing.{upto-none, closed-next, not-upto, still-upto}
use Rattle.hlc_routing.proofs.ranges.Ranges.close_each.Goals.{then-not-close_open, else-not-close_open}
use Rattle.hlc_routing.proofs.ranges.Ranges.close_each.Goals as goal

pub loop-store-init : goal.loop-store-init
loop-store-init c = record {
  division = refl;
  closed = λ layout run h. h;
  open' = λ layout run h. (λ t. upto-none layout run c.args.ids.now, λ all'. refl);
}

pub loop-store-preserved : goal.loop-store-preserved
loop-store-preserved c = record {
  division = c.close_open.ensures.division ∙ c.loop-store.invariant.division;
  closed = λ layout run h.
      subst (λ r. Represents layout c.close_open.new.self r)
      (sym (closed-next layout c.args.ids.now c.loop-store.store run))
      (c.close_open.ensures.represents layout (each_closed layout c.args.ids.now c.loop-store.store run)
      (c.loop-store.invariant.closed layout run h));
  open' = λ layout run h.
      let was = c.close_open.ensures.open layout (each_closed layout c.args.ids.now c.loop-store.store run)
      (c.loop-store.invariant.closed layout run h) in
      elim c.if-not-close_open.branch [
        | then-not-close_open w ↦ rw w.open-is (not-upto layout run c.args.ids.now c.loop-store.store
            c.close_open.result
            w.if-not-close_open.true was)
        | else-not-close_open w ↦ rw w.open-is (still-upto layout run c.args.ids.now c.loop-store.store
            c.loop-store.open
            c.close_open.result w.if-not-close_open.false (c.loop-store.invariant.open' layout run h) was)
      ];
}

pub returns-clause-represents : goal.returns-clause-represents
returns-clause-represents c = λ layout run h.
    let e : c.loop-store.store ≡ length c.args.ids.now = omega arith in
    subst (λ n. Represents layout c.loop-store.self (each_closed layout c.args.ids.now n run)) e
    (c.loop-store.invariant.closed layout run h)

pub returns-clause-open : goal.returns-clause-open
returns-clause-open c = λ layout run h.
    let e : c.loop-store.store ≡ length c.args.ids.now = omega arith in
    subst (λ n. IsTrue c.loop-store.open ↔ AreOpenUpto layout run c.args.ids.now n) e
    (c.loop-store.invariant.open' layout run h)

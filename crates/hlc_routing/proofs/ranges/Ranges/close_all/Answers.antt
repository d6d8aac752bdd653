-- Each store closes its snapshot where it is open.
use Rattle.std.proofs.Common.{◌≡◌, length, ap, sym, ◌∙◌, arith, true, false}
use Rattle.hlc_routing.proofs.Closing.{all-closed_by, same-ids}
use Rattle.hlc_routing.proofs.ranges.Ranges.close_all.Goals as goal

pub returns-then-open-clause-ok : goal.returns-then-open-clause-ok
returns-then-open-clause-ok c = λ layout run h.
    let a : length c.ids-2.result.now ≡ length c.args.snapshot.now.ids = ap length c.ids-2.ensures in
    let b : length c.stores-many.result.now ≡ length c.args.self.now.stores = ap length c.stores-many.ensures.value in
    let many : length c.args.self.now.stores ≡ layout.stores = h.many in
    let count : length c.args.snapshot.now.ids ≡ layout.stores = omega (arith, c.if-ids-many.false, a, b, many) in (
      count,
      same-ids layout run c.ids.result.now c.args.snapshot.now.ids c.ids.ensures
          ((c.close_each-open.ensures.open layout run h).0 c.if-open.true),
    )

pub returns-then-open-clause-all : goal.returns-then-open-clause-all
returns-then-open-clause-all c = λ layout run h open'.
    all-closed_by layout c.close_each-open.new.self run c.args.snapshot.now c.ids.result.now c.ids.ensures open'
    (c.close_each-open.ensures.represents layout run h)

pub returns-else-open-clause-err : goal.returns-else-open-clause-err
returns-else-open-clause-err c = λ layout run h are.
    let t : c.close_each-open.result ≡ true = (c.close_each-open.ensures.open layout run h).1
    (same-ids layout run c.args.snapshot.now.ids c.ids.result.now (sym c.ids.ensures) are.1) in
    let e : false ≡ true = sym c.if-open.false ∙ t in cc

pub returns-else-open-clause-all : goal.returns-else-open-clause-all
returns-else-open-clause-all c = λ layout run h open'.
    all-closed_by layout c.close_each-open.new.self run c.args.snapshot.now c.ids.result.now c.ids.ensures open'
    (c.close_each-open.ensures.represents layout run h)

-- All stores opened it, or those that did have closed it again.
use Rattle.std.proofs.Common.{inr, sym, subst}
use Rattle.hlc_routing.{specs.All.HasOpenedSome, proofs.Closing.closed-each}
use Rattle.hlc_routing.proofs.Opening.{opening, all-opened, opened-cut, few-opened}
use Rattle.hlc_routing.proofs.ranges.Ranges.open_at.Goals as goal

pub returns-in-Ok-open_each-clause-represents : goal.returns-in-Ok-open_each-clause-represents
returns-in-Ok-open_each-clause-represents c = λ layout run h.
    rw c.new.ensures (all-opened layout c.args.self.now c.open_each.new.self c.args.stamp run
    c.open_each.new.ids.items h (c.in-Ok-open_each.ensures.ok layout run h))

pub returns-in-Ok-open_each-clause-consistent : goal.returns-in-Ok-open_each-clause-consistent
returns-in-Ok-open_each-clause-consistent c = λ layout run h.
    c.cuts_are_consistent.ensures layout run c.args.stamp h.legal (opened-cut layout c.open_each.new.self c.args.stamp
    run (opening c.args.stamp) (c.in-Ok-open_each.ensures.ok layout run h).stepped)

pub returns-in-Err-open_each-clause-represents : goal.returns-in-Err-open_each-clause-represents
returns-in-Err-open_each-clause-represents c = λ layout run h.
    inr (few-opened layout c.args.self.now c.open_each.new.self c.close_each.new.self c.args.stamp run
    c.as_slice.result.now c.in-Err-open_each.fault h
    (subst (λ xs. HasOpenedSome layout c.open_each.new.self c.args.stamp run xs c.in-Err-open_each.fault)
    (sym c.as_slice.ensures.value) (c.in-Err-open_each.ensures.err layout run h))
    (λ later kept few open'. closed-each layout c.close_each.new.self later c.as_slice.result.now open'
    (c.close_each.ensures.represents layout later kept)))

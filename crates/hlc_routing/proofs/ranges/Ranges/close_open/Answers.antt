-- The store closes the snapshot just where it has it open.
use Rattle.hlc_routing.proofs.Closing.{close-is, open-is}
use Rattle.hlc_routing.proofs.ranges.Ranges.close_open.Goals as goal

pub returns-clause-represents : goal.returns-clause-represents
returns-clause-represents c = λ layout run h.
    close-is layout c.args.self.now c.close.new.self run c.args.store c.args.id c.close.result h
    (c.close.ensures.represents layout run h) c.close.ensures.unchanged

pub returns-clause-open : goal.returns-clause-open
returns-clause-open c = λ layout run h.
    rw c.is_ok.ensures.value (open-is layout c.args.self.now c.close.new.self run c.args.store c.args.id
    c.close.result h
    (c.close.ensures.represents layout run h))

-- A write is read, and then the others.
use Rattle.std.proofs.Common.{option_copied, List, ℕ, Bor}
use Rattle.hlc_wire.proofs.BatchLemmas.{writes_more, writes_zero}
use Rattle.hlc_wire.proofs.batch.+after_writes.Goals as goal

pub returns-then-count-eq0 : goal.returns-then-count-eq0
returns-then-count-eq0 t c = writes_zero c.args.count c.args.bytes.now c.if-count-eq0.true

pub returns : goal.returns
returns t c =
    writes_more (λ (rest : Bor (List ℕ)). rest.now) c.args.count c.args.bytes.now c.in_ok-rest.field-0-0.now
    c.in_ok-rest.rest.now (option_copied c.in_ok-rest-2.field-0-0) c.in_ok-rest-2.rest.now c.after_writes.result
    c.if-count-eq0.false c.in_ok-rest.ensures c.in_ok-rest-2.ensures c.after_writes.ensures

-- The record at the front was read, and came before or was applied.
use Rattle.std.proofs.Common.{arith}
use Rattle.hlc_log.{specs.Record.record_seen, proofs.LogLemmas.front_is, proofs.LogLemmas.front_shortens}
use Rattle.hlc_log.proofs.apply.apply_front.Goals as goal

pub returns-in-Ok-enter-clause-represents : goal.returns-in-Ok-enter-clause-represents
returns-in-Ok-enter-clause-represents c = λ past h.
    let front = front_is c.args.bytes.now (record_seen c.in-Ok.found.0) c.in-Ok.found.1.now
    (λ i. omega (arith, c.type_inv.bytes i)) c.in-Ok.ensures in (
      record_seen c.in-Ok.found.0,
      front.0,
      front.1,
      c.in-Ok-enter.ensures.raised,
      c.in-Ok-enter.ensures.represents past h,
    )

pub returns-in-Ok-enter-clause-shorter : goal.returns-in-Ok-enter-clause-shorter
returns-in-Ok-enter-clause-shorter c =
    front_shortens c.args.bytes.now (record_seen c.in-Ok.found.0) c.in-Ok.found.1.now
    (λ i. omega (arith, c.type_inv.bytes i)) c.in-Ok.ensures

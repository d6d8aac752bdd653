-- What was made represents the newer past, or that of before.
use Rattle.hlc_increment_calls.proofs.apply.joined.Goals as goal

pub returns-in-Ok-Ok-clause-represents : goal.returns-in-Ok-Ok-clause-represents
returns-in-Ok-Ok-clause-represents c = λ past more newer h g is.
    rw c.in-Ok-Ok.field-0-is at (c.in-Ok-Ok.ensures.represents past more newer h g is)

pub returns-in-Ok-Ok-clause-chained : goal.returns-in-Ok-Ok-clause-chained
returns-in-Ok-Ok-clause-chained c = λ past mid more newer h g is.
    rw c.in-Ok-Ok.field-0-is at (c.in-Ok-Ok.ensures.chained past mid more newer h g is)

pub returns-in-Ok-Ok-clause-back : goal.returns-in-Ok-Ok-clause-back
returns-in-Ok-Ok-clause-back c = λ past mid more earlier h g is.
    rw c.in-Ok-Ok.field-0-is at (c.in-Ok-Ok.ensures.back past mid more earlier h g is)

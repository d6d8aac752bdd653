-- The bytes that were made are in the output.
use Rattle.hlc_ffi.proofs.increments.hlc_increment_apply.Goals as goal

pub returns-in-Ok-clause-chained : goal.returns-in-Ok-clause-chained
returns-in-Ok-clause-chained c = λ zero before after kept newer read past mid more of h spelled fits is g.
    rw c.put-in-Ok.ensures (c.in-Ok.ensures.chained before after kept newer read past mid more of h spelled fits is g)

pub returns-in-Ok-clause-back : goal.returns-in-Ok-clause-back
returns-in-Ok-clause-back c = λ zero before after kept earlier read past mid more of h spelled fits is g.
    rw c.put-in-Ok.ensures (c.in-Ok.ensures.back before after kept earlier read past mid more of h spelled fits is g)

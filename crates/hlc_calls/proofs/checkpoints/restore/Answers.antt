-- What was made of the bytes is returned, or why nothing was.
use Rattle.hlc_calls.proofs.ResumedLemmas.{is_made, is_past}
use Rattle.hlc_calls.proofs.checkpoints.restore.Goals as goal

pub returns-clause-made : goal.returns-clause-made
returns-clause-made c = is_made _ _ _ _ c.resume.ensures.exact c.answered.ensures

pub returns-clause-represents : goal.returns-clause-represents
returns-clause-represents c = λ saved past bytes.
    is_past _ _ _ _ _ c.answered.ensures (c.resume.ensures.tag saved bytes.0 bytes.1)
    (c.resume.ensures.represents saved past bytes) (c.resume.ensures.only saved bytes.0 bytes.1)

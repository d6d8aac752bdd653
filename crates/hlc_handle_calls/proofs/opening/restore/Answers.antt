-- A closed store gets the core that was made, or stays closed.
use Rattle.hlc_handle_calls.proofs.Openings.{restores, restores_past}
use Rattle.hlc_handle_calls.proofs.opening.restore.Goals as goal

pub returns-clause-answer : goal.returns-clause-answer
returns-clause-answer c =
    rw c.in_default.ensures.boxed (restores c.args.bytes.now _ _ _ _ _ c.restore-made.ensures.made c.opened.ensures)

pub returns-clause-represents : goal.returns-clause-represents
returns-clause-represents c = λ saved past bytes.
    rw c.in_default.ensures.boxed
    (restores_past saved past _ _ _ _ _ (c.restore-made.ensures.represents saved past bytes) c.opened.ensures)

-- Rows of other keys do not answer at a key.
use Rattle.hlc_split.proofs.Sides.{parts-answer, sides-answer, joined-is_checkpoint}
use Rattle.hlc_split.proofs.stored_rows_answer_alike.Goals as goal

pub returns-clause-parts : goal.returns-clause-parts
returns-clause-parts c = λ rows is_of key stamp. parts-answer is_of rows key stamp

pub returns-clause-joined : goal.returns-clause-joined
returns-clause-joined c = sides-answer

pub returns-clause-checkpoint : goal.returns-clause-checkpoint
returns-clause-checkpoint c = joined-is_checkpoint

-- The saver has the mark of the state that its bytes are of.
use Rattle.std.proofs.Common.{◌∙◌}
use Rattle.hlc_saved.proofs.GoesOn.{marks-tell}
use Rattle.hlc_saved.proofs.laws.savings_are_of_one_state.Goals as goal

pub returns : goal.returns
returns c = λ saver tag old new read made gone same. marks-tell old new gone (same ∙ made.mark)

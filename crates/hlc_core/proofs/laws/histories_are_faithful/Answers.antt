-- Each moment of a legal history is legal.
use Rattle.hlc_core.proofs.FaithfulLemmas.{histories_are_faithful}
use Rattle.hlc_core.proofs.laws.histories_are_faithful.Goals as goal

pub returns : goal.returns
returns c = histories_are_faithful

-- Each opening uses an id above all earlier ones, and no closing adds one: step by step back.
use Rattle.hlc_snapshot.proofs.RegisterLemmas.{open_before}
use Rattle.hlc_snapshot.proofs.laws.ids_are_never_used_again.Goals as goal

pub returns : goal.returns
returns c = λ older newer. open_before {older = older} {newer = newer}

-- From the horizon on the answers are the same.
use Rattle.hlc_vacuum.proofs.RepresentingLemmas.{opens_keep_representing}
use Rattle.hlc_vacuum.proofs.laws.opens_keep_representing.Goals as goal

pub returns : goal.returns
returns c = opens_keep_representing

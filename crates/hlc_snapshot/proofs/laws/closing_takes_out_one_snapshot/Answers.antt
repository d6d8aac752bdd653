-- A closing removes the snapshots with one id, so only the look-up of that id changes.
use Rattle.hlc_snapshot.proofs.RegisterLemmas.{closed-here, closed-other}
use Rattle.hlc_snapshot.proofs.laws.closing_takes_out_one_snapshot.Goals as goal

pub returns-clause-removed : goal.returns-clause-removed
returns-clause-removed c = closed-here

pub returns-clause-others : goal.returns-clause-others
returns-clause-others c = closed-other

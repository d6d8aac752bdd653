-- The new id is above all others, so its look-up finds the new snapshot, and the look-ups of the others do not change.
use Rattle.hlc_snapshot.proofs.RegisterLemmas.{next_id-fresh, opened-here, opened-other}
use Rattle.hlc_snapshot.proofs.laws.opening_adds_one_snapshot.Goals as goal

pub returns-clause-fresh : goal.returns-clause-fresh
returns-clause-fresh c = next_id-fresh

pub returns-clause-here : goal.returns-clause-here
returns-clause-here c = opened-here

pub returns-clause-others : goal.returns-clause-others
returns-clause-others c = opened-other

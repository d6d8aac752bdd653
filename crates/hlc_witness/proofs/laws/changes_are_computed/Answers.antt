-- The changes key by key and point by point are all changes, in order, and an ordered list of all changes is that list.
use Rattle.hlc_witness.proofs.ChangeLemmas.{changes_are_computed, changes_are_one}
use Rattle.hlc_witness.proofs.laws.changes_are_computed.Goals as goal

pub returns-clause-are : goal.returns-clause-are
returns-clause-are c = changes_are_computed

pub returns-clause-only : goal.returns-clause-only
returns-clause-only c = changes_are_one

-- The newest row at a change's point serves that change and no other.
use Rattle.hlc_witness.specs.AllChanges.{all_changes}
use Rattle.hlc_witness.proofs.ChangeLemmas.{changes_force_rows, changes_are_computed}
use Rattle.hlc_witness.proofs.laws.changes_force_rows.Goals as goal

pub returns-clause-listed : goal.returns-clause-listed
returns-clause-listed c = λ all others points changes are alike.
    changes_force_rows all others points changes are.ascend are.each alike

pub returns-clause-counted : goal.returns-clause-counted
returns-clause-counted c = λ all others points ascend alike.
    let are = changes_are_computed all points ascend in
    changes_force_rows all others points (all_changes all points) are.ascend are.each alike

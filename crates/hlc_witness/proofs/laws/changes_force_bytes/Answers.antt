-- The row that serves a change costs what the change forces.
use Rattle.hlc_witness.proofs.CostLemmas.{changes_force_bytes}
use Rattle.hlc_witness.proofs.laws.changes_force_bytes.Goals as goal

pub returns : goal.returns
returns c = λ all others points changes are alike.
    changes_force_bytes all others points changes are.ascend are.each alike

-- A row is above the higher stamp or not, and above the lower one or not.
use Rattle.hlc_vacuum.proofs.RepresentingLemmas.{rows_above_are_counted}
use Rattle.hlc_vacuum.proofs.laws.rows_above_are_counted.Goals as goal

pub returns : goal.returns
returns c = rows_above_are_counted

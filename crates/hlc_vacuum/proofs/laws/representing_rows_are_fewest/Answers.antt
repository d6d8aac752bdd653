-- The rows above the floor are all there, so those at or below it are as many as the changes.
use Rattle.hlc_vacuum.proofs.RepresentingLemmas.{representing_rows_are_fewest}
use Rattle.hlc_vacuum.proofs.laws.representing_rows_are_fewest.Goals as goal

pub returns : goal.returns
returns c = representing_rows_are_fewest

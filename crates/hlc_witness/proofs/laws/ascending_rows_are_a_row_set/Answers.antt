-- Rows in order differ in key, stamp or node.
use Rattle.hlc_witness.proofs.CertificateLemmas.{ascending_rows_are_a_row_set}
use Rattle.hlc_witness.proofs.laws.ascending_rows_are_a_row_set.Goals as goal

pub returns : goal.returns
returns c = ascending_rows_are_a_row_set

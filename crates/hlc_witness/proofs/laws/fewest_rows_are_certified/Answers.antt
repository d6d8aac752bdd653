-- Rows that are alike have the same changes.
use Rattle.hlc_witness.proofs.CertificateLemmas.{fewest_rows_are_certified}
use Rattle.hlc_witness.proofs.laws.fewest_rows_are_certified.Goals as goal

pub returns : goal.returns
returns c = fewest_rows_are_certified

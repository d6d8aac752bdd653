-- The witnesses are changes, and each change forces a row.
use Rattle.hlc_witness.proofs.CertificateLemmas.{certificates_show_fewest}
use Rattle.hlc_witness.proofs.laws.certificates_show_fewest.Goals as goal

pub returns : goal.returns
returns c = certificates_show_fewest

-- There are as many rows as changes.
use Rattle.hlc_witness.proofs.CertificateLemmas.{certificates_show_cheapest}
use Rattle.hlc_witness.proofs.laws.certificates_show_cheapest.Goals as goal

pub returns : goal.returns
returns c = certificates_show_cheapest

-- An input has one answer, and this is an answer that it may have.
use Rattle.hlc_certificate.proofs.ReadBackLemmas.{printed_shows_fewest}
use Rattle.hlc_certificate.proofs.laws.printed_certificates_show_fewest.Goals as goal

pub returns : goal.returns
returns c = printed_shows_fewest

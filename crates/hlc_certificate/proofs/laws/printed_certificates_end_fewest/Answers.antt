-- The lines are one certificate, so a check has one end, except out of memory.
use Rattle.hlc_certificate.proofs.ReadBackLemmas.{printed_ends_fewest}
use Rattle.hlc_certificate.proofs.laws.printed_certificates_end_fewest.Goals as goal

pub returns : goal.returns
returns c = printed_ends_fewest

-- No line contains a line feed, so the text is split into the lines that were printed.
use Rattle.hlc_certificate.proofs.ReadBackLemmas.{printed_is_read}
use Rattle.hlc_certificate.proofs.laws.printed_certificates_are_read.Goals as goal

pub returns : goal.returns
returns c = printed_is_read

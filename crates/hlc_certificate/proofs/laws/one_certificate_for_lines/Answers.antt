-- Each line says one thing, and what the lines say is split into points, rows and witnesses.
use Rattle.hlc_certificate.proofs.OneCertificate.{one_certificate}
use Rattle.hlc_certificate.proofs.laws.one_certificate_for_lines.Goals as goal

pub returns : goal.returns
returns c = one_certificate

-- The vacuum left the fewest rows, and its points and changes are those of a vacuum after it.
use Rattle.hlc_core.proofs.CertifiedLemmas.{vacuums-leave-certified, certificate-is-report}
use Rattle.hlc_vacuum_parts.proofs.laws.vacuums_leave_a_certificate.Goals as goal

pub returns-clause-fewest : goal.returns-clause-fewest
returns-clause-fewest c = vacuums-leave-certified

pub returns-clause-report : goal.returns-clause-report
returns-clause-report c = certificate-is-report

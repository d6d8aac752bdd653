-- If there is no reason against them, the witnesses are a certificate.
use Rattle.hlc_witness.proofs.CertificateLemmas.{certificates_show_fewest, certificates_show_cheapest}
use Rattle.hlc_witness.proofs.checker.check.Goals as goal

pub returns-in-None-clause-fewest : goal.returns-in-None-clause-fewest
returns-in-None-clause-fewest c =
    certificates_show_fewest c.args.rows.now c.args.points.now c.args.witnesses.now c.in-None.ensures.reason

pub returns-in-None-clause-cheapest : goal.returns-in-None-clause-cheapest
returns-in-None-clause-cheapest c =
    certificates_show_cheapest c.args.rows.now c.args.points.now c.args.witnesses.now c.in-None.ensures.reason

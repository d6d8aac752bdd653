-- The words and the stamp are printed, and then the line feed.
use Rattle.hlc_text.proofs.PrintLemmas.{printed_then}
use Rattle.hlc_certificate.proofs.print.put_point.Goals as goal

pub returns-clause-text : goal.returns-clause-text
returns-clause-text g c = printed_then c.put_stamp_after.ensures.text c.put.ensures

-- The two numbers are printed after their words, and then the line feed.
use Rattle.hlc_text.proofs.PrintLemmas.{printed_then}
use Rattle.hlc_certificate.proofs.check.put_fewest.Goals as goal

pub returns : goal.returns
returns g c = printed_then (printed_then c.put_named_number.ensures c.put_named_count.ensures) c.put.ensures

-- The node and its count are printed, and then the line feed.
use Rattle.hlc_text.proofs.PrintLemmas.{printed_then}
use Rattle.hlc_storm_report.proofs.printing.put_count.Goals as goal

pub returns : goal.returns
returns g c = printed_then (printed_then c.put_named_number.ensures c.put_named_number-2.ensures) c.put.ensures

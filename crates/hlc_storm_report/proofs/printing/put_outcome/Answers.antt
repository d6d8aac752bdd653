-- The refusal is printed, and then the line feed.
use Rattle.hlc_text.proofs.PrintLemmas.{printed_then}
use Rattle.hlc_storm_report.proofs.printing.put_outcome.Goals as goal

pub returns-in-Err : goal.returns-in-Err
returns-in-Err g c = rw c.in-Err.is (printed_then c.put_fault.ensures c.put.ensures)

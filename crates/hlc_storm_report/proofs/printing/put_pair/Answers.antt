-- The key and the value are printed, and then the line feed.
use Rattle.hlc_text.proofs.PrintLemmas.{printed_then}
use Rattle.hlc_storm_report.proofs.printing.put_pair.Goals as goal

pub returns : goal.returns
returns g c =
    rw (← c.as_slice.ensures, ← c.as_slice-2.ensures)
    (printed_then (printed_then c.put_bytes.ensures c.put_named_bytes.ensures) c.put.ensures)

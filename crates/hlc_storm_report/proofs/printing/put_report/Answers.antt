-- The lines of the nodes, the floor, the keys with values, and the last two are printed one after another.
use Rattle.hlc_text.proofs.PrintLemmas.{printed_then}
use Rattle.hlc_storm_report.proofs.printing.put_report.Goals as goal

pub returns : goal.returns
returns g c =
    let last = printed_then (printed_then c.put_named_number.ensures c.put-2.ensures) c.put-3.ensures in
    let floor = printed_then c.put_named_stamp.ensures c.put.ensures in
    rw (← c.as_slice.ensures.value, ← c.as_slice-2.ensures)
    (printed_then c.put_counts.ensures (printed_then floor (printed_then c.put_pairs.ensures last)))

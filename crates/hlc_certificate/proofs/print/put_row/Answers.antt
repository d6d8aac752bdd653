-- The words of the line are printed one after another, each but the first after a space.
use Rattle.hlc_text.proofs.PrintLemmas.{printed_then}
use Rattle.hlc_certificate.proofs.PrintedLines.{printed_row}
use Rattle.hlc_certificate.proofs.print.put_row.Goals as goal

pub returns-clause-text : goal.returns-clause-text
returns-clause-text g c =
    let node = printed_then c.put_named_number.ensures c.put_value.ensures.text in
    let words = printed_then c.put_bytes_after.ensures.text (printed_then c.put_stamp_after.ensures.text node) in
    rw (← c.as_slice.ensures) (printed_row _ _ _ c.args.row.now.value (printed_then words c.put.ensures))

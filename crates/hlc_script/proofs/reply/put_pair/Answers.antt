-- The key is printed, the value, and then the line feed.
use Rattle.hlc_text.proofs.PrintLemmas.{printed_then}
use Rattle.hlc_script.proofs.reply.put_pair.Goals as goal

pub returns : goal.returns
returns g c =
    rw (← c.as_slice.ensures, ← c.as_slice-2.ensures)
    (printed_then (printed_then c.put_named_bytes.ensures c.put_named_bytes-2.ensures) c.put.ensures)

-- The number is printed, and then what is added to it.
use Rattle.hlc_text.proofs.PrintLemmas.{printed_then}
use Rattle.hlc_script.proofs.reply.put_numbered.Goals as goal

pub returns : goal.returns
returns g c =
    printed_then (rw c.code-code.ensures at c.put_named_number.ensures)
    (rw (c.code-code.ensures, c.word.ensures) at c.put_detail.ensures)

-- The floor is printed, and then the counts, one after another.
use Rattle.hlc_text.proofs.PrintLemmas.{printed_then}
use Rattle.hlc_script.proofs.reply.put_report.Goals as goal

pub returns : goal.returns
returns g c =
    printed_then c.put_named_stamp.ensures
    (printed_then c.put_named_number.ensures
    (printed_then c.put_named_count.ensures c.put_named_count-2.ensures))

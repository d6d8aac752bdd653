-- The first line is printed, and then the lines after it.
use Rattle.hlc_text.proofs.PrintLemmas.{printed_then}
use Rattle.hlc_script.proofs.reply.put_lines.Goals as goal

pub returns : goal.returns
returns g c = printed_then c.put_first_line.ensures c.put_more.ensures

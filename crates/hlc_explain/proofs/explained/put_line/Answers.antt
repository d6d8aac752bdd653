-- The line is printed, and then its line feed.
use Rattle.hlc_text.proofs.PrintLemmas.{printed_then}
use Rattle.hlc_explain.proofs.explained.put_line.Goals as goal

pub returns : goal.returns
returns g c = printed_then c.put.ensures c.put-2.ensures

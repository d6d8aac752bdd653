-- The word and the number of nodes are printed, and then the line feed.
use Rattle.hlc_text.proofs.PrintLemmas.{printed_then}
use Rattle.hlc_script.proofs.run.put_header.Goals as goal

pub returns : goal.returns
returns g c = printed_then c.put_named_number.ensures c.put.ensures

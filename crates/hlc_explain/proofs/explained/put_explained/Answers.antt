-- After the sentence on words the usage is printed.
use Rattle.hlc_text.proofs.PrintLemmas.{printed_then}
use Rattle.hlc_explain.proofs.explained.put_explained.Goals as goal

pub returns-then-status-eq1 : goal.returns-then-status-eq1
returns-then-status-eq1 g c = rw c.if-status-eq1.true (printed_then c.put_line.ensures c.put.ensures)

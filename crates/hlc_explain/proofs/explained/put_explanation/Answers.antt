-- What was printed from the start on is written when all is finished.
use Rattle.std.proofs.Common.{rules}
use Rattle.hlc_text.proofs.PrintLemmas.{printed_finished}
use Rattle.hlc_explain.proofs.explained.put_explanation.Goals as goal

pub returns : goal.returns
returns g c = printed_finished c.new-printer.ensures.start c.put_explained.ensures c.finish.ensures (search rules)

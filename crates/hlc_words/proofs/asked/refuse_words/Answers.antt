-- What was printed from the start on is written when all is finished.
use Rattle.std.proofs.Common.{rules}
use Rattle.hlc_text.proofs.PrintLemmas.{printed_finished}
use Rattle.hlc_words.proofs.asked.refuse_words.Goals as goal

pub returns-clause-written : goal.returns-clause-written
returns-clause-written g c =
    printed_finished c.new-printer.ensures.start c.put.ensures c.finish.ensures (search rules)

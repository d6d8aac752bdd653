-- What is printed is written when all is finished.
use Rattle.std.proofs.Common.{rules}
use Rattle.hlc_text.proofs.PrintLemmas.{printed_finished}
use Rattle.test_script.proofs.certified.write_certificate.Goals as goal

pub returns-clause-written : goal.returns-clause-written
returns-clause-written g c =
    printed_finished c.new-printer.ensures.start c.put_certificate.ensures.text c.finish.ensures (search rules)

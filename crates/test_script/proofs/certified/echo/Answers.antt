-- The word is the number's spelling. What is printed is written when all is finished.
use Rattle.std.proofs.Common.{rules}
use Rattle.hlc_text.proofs.PrintLemmas.{printed_finished}
use Rattle.test_script.proofs.certified.echo.Goals as goal

pub returns : goal.returns
returns g c =
    rw c.in_ok-value.ensures.1
    (printed_finished c.new-printer.ensures.start c.put_number.ensures c.finish.ensures (search rules))

-- One text is printed after another.
use Rattle.hlc_text.proofs.PrintLemmas.{printed_then}
use Rattle.hlc_text.proofs.printer.Printer.put_named_number.Goals as goal

pub returns : goal.returns
returns g c = printed_then c.put.ensures c.put_number.ensures

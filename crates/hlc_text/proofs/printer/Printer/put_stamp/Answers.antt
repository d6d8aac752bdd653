-- Where there is room, what is appended waits.
use Rattle.std.proofs.Common.{refl}
use Rattle.hlc_text.proofs.PrintLemmas.{printed_then, printed_waits}
use Rattle.hlc_text.proofs.printer.Printer.put_stamp.Goals as goal

pub returns : goal.returns
returns g c = printed_then c.make_room.ensures.nothing (printed_waits refl c.put_stamp.ensures.text)

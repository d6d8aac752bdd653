-- Where there is room, what is appended waits.
use Rattle.std.proofs.Common.{refl, ◌++◌, ◌∷◌, [], decimal}
use Rattle.hlc_clock.specs.Stamp.{stamp_text}
use Rattle.hlc_text.proofs.{Appended.then_more, PrintLemmas.printed_then, PrintLemmas.printed_waits}
use Rattle.hlc_text.proofs.printer.Printer.put_numbered_stamp_line.Goals as goal

pub returns : goal.returns
returns g c =
    let before = c.make_room.new.self.waiting in
    let name = c.args.name.now in
    let stamp = stamp_text c.args.stamp in
    let stamped = then_more before name stamp c.put.ensures c.put_stamp.ensures.text in
    let middle = c.args.middle.now in
    let number = decimal c.args.number in
    let more = then_more before (name ++ stamp) middle stamped c.put-2.ensures in
    let numbered = then_more before ((name ++ stamp) ++ middle) number more c.put_number.ensures.text in
    let line = then_more before (((name ++ stamp) ++ middle) ++ number) (10 ∷ []) numbered c.put-3.ensures in
    printed_then c.make_room.ensures.nothing (printed_waits refl line)

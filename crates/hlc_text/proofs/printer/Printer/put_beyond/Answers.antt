-- A front of the text fills the buffer, which is written, and the rest is printed.
use Rattle.std.proofs.Common.{◌≡◌, ◌++◌, refl, sym, take-append-drop}
use Rattle.hlc_text.proofs.PrintLemmas.{printed_then, printed_waits, printed_at_once}
use Rattle.hlc_text.proofs.printer.Printer.put_beyond.Goals as goal

pub returns : goal.returns
returns g c =
    let front = c.split_at.result.0.now in
    let back = c.split_at.result.1.now in
    let whole : c.args.text.now ≡ front ++ back =
    rw (c.split_at.ensures.front, c.split_at.ensures.back)
    (sym (take-append-drop c.room.result c.args.text.now)) in
    let beyond = printed_then (printed_at_once c.finish.ensures) c.put_first.ensures in
    rw whole (printed_then (printed_waits refl c.put.ensures) beyond)

-- Bytes that are their own spelling are the word.
use Rattle.std.proofs.Common.{sym}
use Rattle.hlc_text.proofs.Plain.{own_word}
use Rattle.hlc_text.proofs.printer.Printer.put_bytes.Goals as goal

pub returns-then-is_own_spelling : goal.returns-then-is_own_spelling
returns-then-is_own_spelling g c =
    rw (own_word c.args.bytes.now (sym c.if-is_own_spelling.ensures)) c.put.ensures

-- The pieces so far are printed, and those that are left spell the rest.
use Rattle.std.{proofs.Common.◌≡◌, proofs.Common.ℕ, proofs.Common.List, proofs.Common.◌++◌, specs.List.flat_map}
use Rattle.percent_encoding.specs.Iter.{encoded_text}
use Rattle.hlc_text.specs.{Text.byte_token, Printing.Prints}
use Rattle.hlc_text.proofs.printer.Printer.put_each_byte.Given as goal

abbrev pub invariant-loop-piece : goal.invariant-loop-piece
invariant-loop-piece g l = (done : List ℕ) × Prints g.W.Write.contents l.fn.self l.self done
    × (done ++ encoded_text l.piece-iterator ≡ flat_map byte_token l.bytes)

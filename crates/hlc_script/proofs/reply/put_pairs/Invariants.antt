-- The lines of the pairs so far are printed.
use Rattle.std.{proofs.Common.map, proofs.Common.take, specs.List.flat_map}
use Rattle.hlc_text.specs.{Printing.Prints, Text.printed}
use Rattle.hlc_script.specs.Reply.{pair_line}
use Rattle.hlc_script.proofs.reply.put_pairs.Given as goal

abbrev pub invariant-loop-pair : goal.invariant-loop-pair
invariant-loop-pair g l =
    Prints g.W.Write.contents l.fn.printer l.printer
    (flat_map printed (map pair_line (take l.pair-index l.pairs)))

-- The lines of the pairs so far are printed.
use Rattle.std.{proofs.Common.map, proofs.Common.take, specs.List.flat_map}
use Rattle.hlc_text.specs.{Text.printed, Printing.Prints}
use Rattle.hlc_storm_report.specs.Printed.{storm_pair_line}
use Rattle.hlc_storm_report.proofs.printing.put_pairs.Given as goal

abbrev pub invariant-loop-pair : goal.invariant-loop-pair
invariant-loop-pair g l =
    Prints g.W.Write.contents l.fn.printer l.printer
    (flat_map printed (map storm_pair_line (take l.pair-index l.pairs)))

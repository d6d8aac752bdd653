-- The lines of the nodes so far are printed.
use Rattle.std.{proofs.Common.take, specs.List.flat_map}
use Rattle.hlc_text.specs.{Text.printed, Printing.Prints}
use Rattle.hlc_storm_report.specs.Printed.{accepted_lines}
use Rattle.hlc_storm_report.proofs.printing.put_counts.Given as goal

abbrev pub invariant-loop-node : goal.invariant-loop-node
invariant-loop-node g l =
    Prints g.W.Write.contents l.fn.printer l.printer
    (flat_map printed (accepted_lines 0 (take l.node l.counts)))

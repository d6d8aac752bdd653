-- The line of one more pair is printed.
use Rattle.hlc_text.proofs.PrintLemmas.{printed_line}
use Rattle.hlc_text.specs.Text.{printed}
use Rattle.hlc_storm_report.specs.Printed.{storm_pair_line}
use Rattle.hlc_storm_report.proofs.printing.put_pairs.Goals as goal

pub loop-pair-preserved : goal.loop-pair-preserved
loop-pair-preserved g c =
    printed_line printed storm_pair_line c.args.pairs.now c.loop-pair.pair-index c.pair-item.result
    c.loop-pair-test.true c.loop-pair.invariant (rw (← c.pair-item.is) c.put_pair.ensures)

-- A node that does not exist has no accepted item.
use Rattle.std.proofs.Common.{sym}
use Rattle.hlc_core.proofs.PastLemmas.{fresh}
use Rattle.hlc_storm_report.proofs.found.accepted_of.Goals as goal

pub returns-in-Err : goal.returns-in-Err
returns-in-Err c past represents =
    sym (fresh past c.args.node represents.legal (c.in-Err.ensures past represents)).0

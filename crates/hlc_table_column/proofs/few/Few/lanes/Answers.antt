-- There are as many rows as the length says.
use Rattle.std.proofs.Common.{arith}
use Rattle.hlc_table_column.proofs.Moved.{length_front}
use Rattle.hlc_table_column.proofs.few.Few.lanes.Goals as goal

pub returns-clause-few : goal.returns-clause-few
returns-clause-few g c =
    let i = c.self.inside in
    let (le, most, s, n, v) = c.self.invariant in
    omega (arith, length_front i.len g.row.N i.stamps i.nodes i.values c.args.self.now le s n v c.self.view_is)

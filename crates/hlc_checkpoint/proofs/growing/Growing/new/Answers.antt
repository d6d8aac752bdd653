-- Nothing was added.
use Rattle.std.proofs.Common.{[]}
use Rattle.hlc_checkpoint.{specs.StoreView.with_rows, proofs.Grown.grown-none}
use Rattle.hlc_checkpoint.proofs.growing.Growing.new.Goals as goal

pub invariant_of-result : goal.invariant_of-result
invariant_of-result c = rw c.new.ensures (with_rows c.args.head [], grown-none c.args.head)

pub returns : goal.returns
returns c = rw c.new.ensures (grown-none c.args.head)

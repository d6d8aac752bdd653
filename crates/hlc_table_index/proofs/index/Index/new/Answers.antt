-- No keys ascend.
use Rattle.std.specs.List.Sorted.{IsStrictlySortedBy}
use Rattle.hlc_table_index.proofs.index.Index.new.Goals as goal

pub invariant_of-result : goal.invariant_of-result
unfolding IsStrictlySortedBy
invariant_of-result g c = rw c.new.ensures tt

-- Where memory has not run out so far, each worker that was joined has its list.
use Rattle.std.proofs.Common.{◌≡◌, ◌+◌, false, length}
use Rattle.hlc_storm.proofs.joining.join_workers.Given as goal

abbrev pub invariant-loop-worker : goal.invariant-loop-worker
invariant-loop-worker g l =
    l.ends.out_of_memory ≡ false
    → (l.initial.ends.out_of_memory ≡ false)
    × (length l.ends.lists.items ≡ length l.initial.ends.lists.items + length l.yielded)

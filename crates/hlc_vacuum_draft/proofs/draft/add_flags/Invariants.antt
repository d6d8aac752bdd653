-- The flags of the stamps so far were added.
use Rattle.std.proofs.Common.{◌≡◌, ◌++◌, map, take, ltb}
use Rattle.hlc_vacuum_draft.proofs.draft.add_flags.Given as goal

abbrev pub invariant-loop-stamp : goal.invariant-loop-stamp
invariant-loop-stamp l = l.flags ≡ l.fn.flags ++ map (λ s. ltb l.bound s) (take l.stamp-index l.stamps)

-- Each of the boundaries so far is below the next.
use Rattle.std.proofs.Common.{◌≡◌, ℕ, ◌<◌, ◌+◌, List, get_or, Less, nat_cmp}
use Rattle.std.specs.Cmp.Lexicographic.{slice_cmp}
use Rattle.hlc_routing.proofs.division.do_ascend.Given as goal

abbrev pub invariant-loop-i : goal.invariant-loop-i
invariant-loop-i l =
    (k : ℕ) (d : List ℕ) → k + 1 < l.i
    → slice_cmp nat_cmp (get_or l.boundaries k d) (get_or l.boundaries (k + 1) d) ≡ Less

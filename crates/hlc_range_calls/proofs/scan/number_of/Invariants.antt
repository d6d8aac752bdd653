-- The pairs so far are counted.
use Rattle.std.proofs.Common.{◌≡◌, ◌+◌, ℕ, length}
use Rattle.hlc_range_calls.specs.Listing.{narrowed}
use Rattle.hlc_range_calls.proofs.scan.number_of.Given as goal

abbrev pub invariant-loop : goal.invariant-loop
invariant-loop l =
    (done : ℕ) × (length l.fn.answers ≡ done + length l.iterator') × (l.count ≡ narrowed done)

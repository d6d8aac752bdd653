-- The bytes of the pairs so far are at the start of the buffer.
use Rattle.std.proofs.Common.{◌≡◌, ◌++◌, ℕ, List, length}
use Rattle.hlc_wire.specs.Placing.{with_bytes}
use Rattle.hlc_range_calls.specs.Listing.{listing_bytes}
use Rattle.hlc_range_calls.proofs.list.put_listing.Given as goal

abbrev pub invariant-loop-key : goal.invariant-loop-key
invariant-loop-key l =
    (before : List ℕ) × (listing_bytes l.fn.answers ≡ before ++ listing_bytes l.key-iterator)
    × (l.at ≡ length before) × (l.out ≡ with_bytes 0 before l.fn.out)

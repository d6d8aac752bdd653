-- The bytes of the pairs so far and of those that are left are those of all pairs.
use Rattle.std.proofs.Common.{◌≡◌, ◌+◌, length}
use Rattle.hlc_range_calls.specs.Listing.{listing_bytes}
use Rattle.hlc_range_calls.proofs.list.listing_len.Given as goal

abbrev pub invariant-loop-key : goal.invariant-loop-key
invariant-loop-key l = l.len + length (listing_bytes l.key-iterator) ≡ length (listing_bytes l.fn.answers)

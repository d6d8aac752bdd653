-- The hasher was fed the bytes of the pairs so far.
use Rattle.std.proofs.Common.{◌≡◌, ◌++◌, List, ℕ}
use Rattle.sha2.specs.Hashers.{Holds256}
use Rattle.hlc_range_calls.specs.Listing.{listing_bytes}
use Rattle.hlc_calls.proofs.digest.digest_of.Given as goal

abbrev pub invariant-loop-key : goal.invariant-loop-key
invariant-loop-key l =
    (before : List ℕ) × (listing_bytes l.fn.answers ≡ before ++ listing_bytes l.key-iterator) × Holds256 l.hasher before

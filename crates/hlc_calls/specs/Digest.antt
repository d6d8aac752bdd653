-- How the digest of a range of a snapshot is returned.
use Rattle.std.specs.Prelude.{◌≡◌, ℕ, List, Option, Some, None}
use Rattle.sha2.specs.Sha256.{sha256}
use Rattle.hlc_rows.specs.declared.row.Row.{Row}
use Rattle.hlc_columns.specs.Answers.{AreAnswers, IsBetween}
use Rattle.hlc_calls.specs.Answers.{IsCopied}
use Rattle.hlc_range_calls.specs.{Listing.listing_bytes, Scan.end_of}

-- the digest of the listing of the keys of a range that have a value at the stamp of the snapshot is returned; or 10,
-- where there is no such snapshot
abbrev pub ReturnsDigest : Option ℕ → List Row → List ℕ → List ℕ → ℕ → ℕ → List ℕ → List ℕ → Type 0
ReturnsDigest None rows from to code len old new = (code ≡ 10) × (len ≡ 0) × (new ≡ old)
ReturnsDigest (Some stamp) rows from to code len old new =
    (code ≡ 0) × ((pairs : List (List ℕ × List ℕ)) × AreAnswers rows stamp (IsBetween from (end_of to)) pairs
    × (len ≡ 32) × IsCopied (sha256 (listing_bytes pairs)) old new)

-- The digest of a range.
use Rattle.std.proofs.Common.{◌≡◌, ℕ, sym, subst, refl, List, Option, Some}
use Rattle.sha2.specs.Sha256.{sha256}
use Rattle.hlc_rows.specs.{declared.row.Row.Row, Rows.answer}
use Rattle.hlc_columns.specs.Answers.{AreAnswers, IsBetween}
use Rattle.hlc_range_calls.specs.{Listing.listing_bytes, Scan.end_of}
use Rattle.hlc_range_calls.proofs.PairLemmas.{same_answers}
use Rattle.hlc_calls.specs.{Answers.IsCopied, Digest.ReturnsDigest}

-- what is said of the pairs of a range is said of the digest of a snapshot
pub digested_at : (rows others : List Row) (at : Option ℕ) (stamp : ℕ) (from to : List ℕ) (end : Option (List ℕ))
    (pairs : List (List ℕ × List ℕ)) (bytes : List ℕ) (len : ℕ) (old new : List ℕ) → at ≡ Some stamp
    → ((key : List ℕ) → answer rows key stamp ≡ answer others key stamp) → end ≡ end_of to
    → AreAnswers rows stamp (IsBetween from end) pairs → bytes ≡ sha256 (listing_bytes pairs) → len ≡ 32
    → IsCopied bytes old new → ReturnsDigest at others from to 0 len old new
digested_at rows others at stamp from to end pairs bytes len old new is alike ends are digest long copied =
    subst (λ o. ReturnsDigest o others from to 0 len old new) (sym is) (
      refl,
      (
        pairs,
        subst (λ e. AreAnswers others stamp (IsBetween from e) pairs) ends
            (same_answers rows others stamp (IsBetween from end) pairs are alike),
        long,
        subst (λ (b : List ℕ). IsCopied b old new) digest copied,
      ),
    )

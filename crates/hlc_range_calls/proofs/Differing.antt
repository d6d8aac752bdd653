-- What is said of the differences of a range is said of what is returned.
use Rattle.std.proofs.Common.{◌≡◌, ◌≤◌, ◌⊎◌, ℕ, List, sym, subst, refl, inl, inr, length, arith, Option, Some, None}
use Rattle.hlc_columns.specs.Answers.{IsBetween}
use Rattle.hlc_core.specs.Differences.{Difference, AreDifferences, Compares}
use Rattle.hlc_core.specs.Past.{Step, stamp_of, writes}
use Rattle.hlc_range_calls.specs.{Scan.end_of, Scan.ListsWhatFits, Changes.change_bytes, Changes.ReturnsChanges}
use Rattle.hlc_range_calls.proofs.ByteLemmas.{none_length, some_length}

-- a key takes 8 bytes at least
pub change_long : (one : Difference) → 8 ≤ length (change_bytes one)
change_long (key, None) = let long = none_length key in omega (arith, long)
change_long (key, Some value) = let long = some_length key value in omega (arith, long)

pub compared : (before after : ℕ) (past : List Step) (from to : List ℕ) (end : Option (List ℕ))
    (differences : List Difference) (code len many : ℕ) (old new : List ℕ) → end ≡ end_of to
    → Compares before after past (IsBetween from end) (Some differences)
    → ListsWhatFits change_bytes differences code len many old new
    → ReturnsChanges (stamp_of before past) (stamp_of after past) (writes past) from to code len many old new
compared before after past from to end differences code len many old new ends is returned =
    subst (λ o. ReturnsChanges o (stamp_of after past) (writes past) from to code len many old new) (sym is.2)
    (subst (λ o. ReturnsChanges (Some is.0) o (writes past) from to code len many old new) (sym is.3) (
      differences,
      subst (λ e. AreDifferences (writes past) is.0 is.1 (IsBetween from e) differences) ends is.4,
      returned,
    ))

pub not_compared : (before after : ℕ) (past : List Step) (from to : List ℕ) (old : List ℕ)
    → (stamp_of before past ≡ None) ⊎ (stamp_of after past ≡ None)
    → ReturnsChanges (stamp_of before past) (stamp_of after past) (writes past) from to 10 0 0 old old
not_compared before after past from to old (inl is) =
    subst (λ o. ReturnsChanges o (stamp_of after past) (writes past) from to 10 0 0 old old) (sym is)
    (refl, refl, refl, refl)
not_compared before after past from to old (inr is) =
    subst (λ o. ReturnsChanges (stamp_of before past) o (writes past) from to 10 0 0 old old) (sym is)
    (either (stamp_of before past))
  where
    either : (o : Option ℕ) → ReturnsChanges o None (writes past) from to 10 0 0 old old
    either None = (refl, refl, refl, refl)
    either (Some stamp) = (refl, refl, refl, refl)

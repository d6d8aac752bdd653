-- The pairs of the answers of all keys are the listing.
use Rattle.std.proofs.Common.{◌≡◌, ◌++◌, ◌∷◌, ◌∙◌, ℕ, List, [], map, refl, sym, ap, subst, Contains}
use Rattle.std.specs.{Cmp.Lexicographic.slice_cmp, Ordering.nat_cmp, List.Sorted.IsStrictlySortedBy}
use Rattle.std.proofs.lemmas.List.{append-nil}
use Rattle.hlc_values.proofs.MemberLemmas.{Contains-map}
use Rattle.hlc_rows.specs.declared.row.Row.{Row}
use Rattle.hlc_columns.specs.Answers.{AreAnswers}
use Rattle.hlc_core.specs.{declared.listing.Pair.Pair, Listing.IsListing}

abbrev pub of_pair : Pair → List ℕ × List ℕ
of_pair pair = (pair.key, pair.value)

abbrev to_pair : List ℕ × List ℕ → Pair
to_pair p = record { key = p.0; value = p.1 }

back : (pairs : List Pair) → map to_pair (map of_pair pairs) ≡ pairs
back [] = refl
back (pair ∷ pairs) = ap (λ ps. pair ∷ ps) (back pairs)

keys : (pairs : List Pair) → map (λ (p : List ℕ × List ℕ). p.0) (map of_pair pairs)
    ≡ map (λ (pair : Pair). pair.key) pairs
keys [] = refl
keys (pair ∷ pairs) = ap (λ ks. pair.key ∷ ks) (keys pairs)

listing : (rows : List Row) (stamp : ℕ) (pairs : List Pair)
    → AreAnswers rows stamp (λ key. Unit {0}) (map of_pair pairs) → IsListing rows stamp pairs
listing rows stamp pairs are = record {
  ascending = subst (IsStrictlySortedBy (slice_cmp nat_cmp)) (keys pairs) are.ascending;
  exact = λ key value. (
    λ m. ((are.exact key value).0 (Contains-map of_pair pairs (record { key = key; value = value }) m)).1,
    λ is. subst (λ ps. Contains ps (record { key = key; value = value })) (back pairs)
        (Contains-map to_pair (map of_pair pairs) (key, value) ((are.exact key value).1 (tt, is))),
  );
}

-- no pair is left
pub listed_all : (rows : List Row) (stamp : ℕ) (pairs all : List Pair) (left : List (List ℕ × List ℕ))
    → AreAnswers rows stamp (λ key. Unit {0}) (map of_pair pairs ++ left) → left ≡ [] → all ≡ pairs
    → IsListing rows stamp all
listed_all rows stamp pairs all left are none is =
    subst (IsListing rows stamp) (sym is)
    (listing rows stamp pairs (subst (AreAnswers rows stamp (λ key. Unit {0}))
    (ap (λ ps. map of_pair pairs ++ ps) none ∙ append-nil (map of_pair pairs)) are))

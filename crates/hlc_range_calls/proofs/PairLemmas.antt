-- There is one list of the answers at a stamp, and a snapshot's are those of all accepted writes.
use Rattle.std.proofs.Common.{◌≡◌, ◌∙◌, ℕ, ◌<◌, ◌≤◌, List, [], ◌∷◌, ◌++◌, map, refl, sym, ap, subst, arith, length}
use Rattle.std.proofs.Common.{drop, Contains, Option, Some}
use Rattle.std.specs.{Cmp.Lexicographic.slice_cmp, Ordering.nat_cmp, List.Sorted.IsStrictlySortedBy}
use Rattle.hlc_values.proofs.MemberLemmas.{Contains-map}
use Rattle.hlc_rows.specs.{declared.row.Row.Row, Rows.answer}
use Rattle.hlc_columns.specs.Answers.{AreAnswers}
use Rattle.hlc_core.specs.{declared.listing.Pair.Pair, Listing.IsListing}
use Rattle.hlc_core.proofs.ListingLemmas.{one-listing}
use Rattle.hlc_wire.specs.Placing.{with_bytes}
use Rattle.hlc_range_calls.specs.Listing.{narrowed, listing_bytes, ReturnsPairs, ReturnsListing}

abbrev of_pair : Pair → List ℕ × List ℕ
of_pair pair = (pair.key, pair.value)

abbrev to_pair : List ℕ × List ℕ → Pair
to_pair p = record { key = p.0; value = p.1 }

back : (pairs : List (List ℕ × List ℕ)) → map of_pair (map to_pair pairs) ≡ pairs
back [] = refl
back (pair ∷ pairs) = ap (λ ps. pair ∷ ps) (back pairs)

keys : (pairs : List (List ℕ × List ℕ)) → map (λ (pair : Pair). pair.key) (map to_pair pairs)
    ≡ map (λ (p : List ℕ × List ℕ). p.0) pairs
keys [] = refl
keys (pair ∷ pairs) = ap (λ ks. pair.0 ∷ ks) (keys pairs)

listing : (rows : List Row) (stamp : ℕ) (pairs : List (List ℕ × List ℕ))
    → AreAnswers rows stamp (λ key. Unit {0}) pairs → IsListing rows stamp (map to_pair pairs)
listing rows stamp pairs are = record {
  ascending = subst (IsStrictlySortedBy (slice_cmp nat_cmp)) (sym (keys pairs)) are.ascending;
  exact = λ key value. (
    λ m. ((are.exact key value).0 (subst (λ ps. Contains ps (key, value)) (back pairs)
        (Contains-map of_pair (map to_pair pairs) (record { key = key; value = value }) m))).1,
    λ is. Contains-map to_pair pairs (key, value) ((are.exact key value).1 (tt, is)),
  );
}

-- two lists of the answers are one
pub one_list : (rows : List Row) (stamp : ℕ) (pairs others : List (List ℕ × List ℕ))
    → AreAnswers rows stamp (λ key. Unit {0}) pairs → AreAnswers rows stamp (λ key. Unit {0}) others → pairs ≡ others
one_list rows stamp pairs others are also =
    sym (back pairs)
    ∙ ap (λ (ps : List Pair). map of_pair ps) (one-listing rows stamp (map to_pair pairs) (map to_pair others)
    (listing rows stamp pairs are) (listing rows stamp others also))
    ∙ back others

-- rows that answer alike have the same answers
pub same_answers : (rows others : List Row) (stamp : ℕ) (IsWanted : List ℕ → Type 0)
    (pairs : List (List ℕ × List ℕ)) → AreAnswers rows stamp IsWanted pairs
    → ((key : List ℕ) → answer rows key stamp ≡ answer others key stamp) → AreAnswers others stamp IsWanted pairs
same_answers rows others stamp IsWanted pairs are alike = record {
  ascending = are.ascending;
  exact = λ key value. (
    λ m. let has = (are.exact key value).0 m in (has.0, sym (alike key) ∙ has.1),
    λ is. (are.exact key value).1 (is.0, alike key ∙ is.1),
  );
}

-- what is said of the pairs of a snapshot is said of its listing
pub listed_at : (rows others : List Row) (at : Option ℕ) (stamp : ℕ) (pairs : List (List ℕ × List ℕ)) (len : ℕ)
    (old new : List ℕ) → at ≡ Some stamp → ((key : List ℕ) → answer rows key stamp ≡ answer others key stamp)
    → AreAnswers rows stamp (λ key. Unit {0}) pairs → ReturnsPairs pairs len old new
    → ReturnsListing at others 0 len old new
listed_at rows others at stamp pairs len old new is alike are returned =
    subst (λ o. ReturnsListing o others 0 len old new) (sym is)
    (refl, (pairs, same_answers rows others stamp (λ key. Unit {0}) pairs are alike, returned))

-- the pairs fit, and their bytes are put
pub put_whole : (pairs others : List (List ℕ × List ℕ)) (total : ℕ) (old new : List ℕ) → pairs ≡ others
    → total ≡ length (listing_bytes pairs) → total ≤ 18446744073709551615 → total ≤ length old
    → new ≡ with_bytes 0 (listing_bytes others) old → ReturnsPairs pairs total old new
put_whole pairs others total old new same is low fits put =
    let bytes : new ≡ listing_bytes pairs ++ drop (length (listing_bytes pairs)) old =
    put ∙ ap (λ (ps : List (List ℕ × List ℕ)). with_bytes 0 (listing_bytes ps) old) (sym same)
    ∙ ap (λ (n : ℕ). listing_bytes pairs ++ drop n old) (omega arith) in
    (omega (arith, is, low), (λ _. bytes, λ short. absurd (omega (arith, is, fits, short))))

-- they do not fit
pub put_none : (pairs : List (List ℕ × List ℕ)) (total : ℕ) (old : List ℕ)
    → total ≡ narrowed (length (listing_bytes pairs)) → length old < length (listing_bytes pairs)
    → ReturnsPairs pairs total old old
put_none pairs total old is short = (is, (λ fits. absurd (omega (arith, fits, short)), λ _. refl))

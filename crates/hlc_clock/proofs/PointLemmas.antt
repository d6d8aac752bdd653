-- The points of a vacuum. The stamps and the floor, sorted and without repeats, ascend, and the floor, which no stamp
-- exceeds, is the last. There is one list of them, since two ascending lists of the same numbers are equal.
use Rattle.std.proofs.Common.{◌≡◌, ℕ, ◌+◌, ◌<◌, ◌≤◌, List, [], ◌∷◌, ◌++◌, length, refl, ap, sym, ◌∙◌, subst, inl, inr}
use Rattle.std.proofs.Common.{arith, All, Contains, eqb, IsPermutation, IsSorted, nat_cmp, length-append}
use Rattle.std.specs.List.{dedup, Sorted.IsStrictlyIncreasing}
use Rattle.std.proofs.lemmas.List.Elements.{All-push, All-contains, Contains-append_left, Contains-push}
use Rattle.std.proofs.lemmas.List.Elements.{Contains-push_cases}
use Rattle.std.proofs.lemmas.List.Kept.{AllPairs-from_increasing, Contains-dedup_nat, Contains-from_dedup}
use Rattle.std.proofs.lemmas.List.Sorted.{IsPermutation-sym, Contains-permutation}
use Rattle.std.proofs.lemmas.Map.Keys.{IsStrictlyIncreasing-dedup}
use Rattle.hlc_values.proofs.SortedLemmas.{same_members, last-greatest}
use Rattle.hlc_clock.specs.Points.{ArePoints, PointsAscend, last_point}

-- the stamps and the floor, sorted and without repeats, are the points
pub points-from_sorted : (stamps sorted points : List ℕ) (floor : ℕ) → All (λ stamp. stamp ≤ floor) stamps
    → IsPermutation (stamps ++ floor ∷ []) sorted → IsSorted nat_cmp sorted → points ≡ dedup eqb sorted
    → ArePoints stamps floor points
points-from_sorted stamps sorted points floor low moved up is =
    let into : (point : ℕ) → Contains (stamps ++ floor ∷ []) point → Contains points point =
    λ point m. subst (λ xs. Contains xs point) (sym is)
    (Contains-dedup_nat sorted point (Contains-permutation (stamps ++ floor ∷ []) sorted point moved m)) in
    let from : (point : ℕ) → Contains points point → Contains (stamps ++ floor ∷ []) point =
    λ point m.
    Contains-permutation sorted (stamps ++ floor ∷ []) point (IsPermutation-sym (stamps ++ floor ∷ []) sorted moved)
    (Contains-from_dedup eqb sorted point (subst (λ xs. Contains xs point) is m)) in
    let ascending : IsStrictlyIncreasing points =
    subst IsStrictlyIncreasing (sym is) (IsStrictlyIncreasing-dedup sorted up) in
    record {
      ascending = ascending;
      members = λ point. (
        λ m. elim (Contains-push_cases stamps floor point (from point m)) [
          | inl old ↦ inl old
          | inr same ↦ inr (sym same)
        ],
        λ m. elim m [
          | inl old ↦ into point (Contains-append_left stamps (floor ∷ []) point old)
          | inr same ↦ subst (λ p. Contains points p) (sym same) (into floor (Contains-push stamps floor))
        ],
      );
      last =
          last-greatest points floor ascending (into floor (Contains-push stamps floor))
          (λ point m. All-contains (λ p. p ≤ floor) (stamps ++ floor ∷ []) point
          (All-push (λ p. p ≤ floor) stamps floor low (omega arith)) (from point m));
    }

-- there is one list of points
pub ArePoints-unique : (stamps xs ys : List ℕ) (floor : ℕ) → ArePoints stamps floor xs
    → ArePoints stamps floor ys → xs ≡ ys
ArePoints-unique stamps xs ys floor a b =
    same_members (λ x y. x < y) (λ x y up down. omega (arith, up, down)) xs ys
    (AllPairs-from_increasing xs a.ascending) (AllPairs-from_increasing ys b.ascending)
    (λ z. (λ m. (b.members z).1 ((a.members z).0 m), λ m. (a.members z).1 ((b.members z).0 m)))

-- the floor is among them, and the points ascend
pub points-ascend : (stamps points : List ℕ) (floor : ℕ) → ArePoints stamps floor points → PointsAscend points
points-ascend stamps points floor are =
    let long : length points ≡ length are.last.0 + 1 = ap length are.last.1 ∙ length-append are.last.0 (floor ∷ []) in
    (omega arith, are.ascending)

last-push : (earlier : List ℕ) (point : ℕ) → last_point (earlier ++ point ∷ []) ≡ point
last-push [] point = refl
last-push (first ∷ []) point = refl
last-push (first ∷ next ∷ rest) point = last-push (next ∷ rest) point

-- the floor is the last point
pub points-last : (stamps points : List ℕ) (floor : ℕ) → ArePoints stamps floor points → last_point points ≡ floor
points-last stamps points floor are = ap last_point are.last.1 ∙ last-push are.last.0 floor

-- The pairs of all stores are those of all issued writes: each store has the keys that belong to it, and no others.
-- Once
-- they are sorted they ascend, since no two of them have one key.
use Rattle.std.proofs.Common.{◌≡◌, ℕ, ◌+◌, ◌<◌, List, [], ◌∷◌, ◌++◌, length, get_or, map, Option, Some, None, Bool}
use Rattle.std.proofs.Common.{true, false, refl, ap, sym, ◌∙◌, subst, inl, inr, arith, Contains, IsPermutation}
use Rattle.std.proofs.Common.{IsSorted, Ordering, Less, Equal, Greater, nat_cmp, is_lt, ap₂}
use Rattle.std.specs.{Ordering.eq_by_cmp, Ordering.ordering_reverse, Ordering.is_eq, Cmp.Lexicographic.slice_cmp}
use Rattle.std.specs.List.{IsDistinct, AllByRecursion, Sorted.IsStrictlySortedBy}
use Rattle.std.specs.FinMap.{slice_cmp-IsAntisymmetric, nat_cmp-IsAntisymmetric}
use Rattle.std.proofs.lemmas.Bool.{cases_eq, cases_lt, cases_Bool}
use Rattle.std.proofs.lemmas.{Cmp.nat_list_cmp_total, Cmp.eq_by_cmp_equiv, Map.Views.tells_apart}
use Rattle.std.proofs.lemmas.List.{map-append, length-map, get_or-map}
use Rattle.std.proofs.lemmas.List.Elements.{Contains-append_left, Contains-append_right, Contains-append_cases}
use Rattle.std.proofs.lemmas.List.Sorted.{IsPermutation-map, IsPermutation-sym, Contains-permutation}
use Rattle.std.proofs.lemmas.Map.Keys.{IsDistinct-from_sorted, IsDistinct-cons, IsDistinct-head, IsDistinct-tail}
use Rattle.std.proofs.lemmas.Map.Keys.{IsDistinct-IsPermutation, apart_from_distinct, sorted_from_all_adjacent}
use Rattle.hlc_values.proofs.MemberLemmas.{Contains-none, Contains-first, Contains-rest, Contains-cons_cases}
use Rattle.hlc_values.proofs.MemberLemmas.{Contains-map}
use Rattle.hlc_rows.specs.{declared.row.Row.Row, Rows.answer}
use Rattle.hlc_rows.proofs.NewestLemmas.{answer_none}
use Rattle.hlc_table_column.proofs.FirstLemmas.{newest_nil}
use Rattle.hlc_columns.specs.{Answers.IsBetween, Answers.AreAnswers, View.Seen}
use Rattle.hlc_core.specs.{Past.Step, Past.writes, Past.stamp_of, View.Views, declared.listing.Pair.Pair}
use Rattle.hlc_ranges.specs.{Run.Layout, Run.Turn, Run.past_of, Run.issued_writes, Run.IsLegal, Cut.AreNewestIssued}
use Rattle.hlc_routing.specs.Listing.{IsListingBetween, HaveKeysApart, of_pair, ArePairsOf}
use Rattle.hlc_routing.proofs.{Stepping.some-same, Closing.past-none}

-- whether two keys are equal
abbrev same : List ℕ → List ℕ → Bool
same = eq_by_cmp (slice_cmp nat_cmp)

abbrev key_of : Pair → List ℕ
key_of pair = pair.key

abbrev to_pair : List ℕ × List ℕ → Pair
to_pair answer = record { key = answer.0; value = answer.1 }

back : (pairs : List Pair) → map to_pair (map of_pair pairs) ≡ pairs
back [] = refl
back (pair ∷ pairs) = ap (λ xs. pair ∷ xs) (back pairs)

keys : (pairs : List Pair) → map (λ (answer : List ℕ × List ℕ). answer.0) (map of_pair pairs) ≡ map key_of pairs
keys [] = refl
keys (pair ∷ pairs) = ap (λ xs. pair.key ∷ xs) (keys pairs)

from_map : {X Y : Type 0} (f : X → Y) (xs : List X) (y : Y) → Contains (map f xs) y
    → (x : X) × Contains xs x × (f x ≡ y)
from_map f [] y m = absurd (Contains-none y m)
from_map f (x ∷ xs) y m =
    elim (Contains-cons_cases (f x) y (map f xs) m) [
      | inl e ↦ (x, Contains-first x xs, e)
      | inr r ↦ let h = from_map f xs y r in (h.0, Contains-rest x h.0 xs h.1, h.2)
    ]

all-append : {K : Type 0} (P : K → Type 0) (xs ys : List K) → AllByRecursion P xs
    → ((y : K) → Contains ys y → P y) → AllByRecursion P (xs ++ ys)
all-append P [] [] h each = tt
all-append P [] (y ∷ ys) h each =
    (each y (Contains-first y ys), all-append P [] ys tt (λ z m. each z (Contains-rest y z ys m)))
all-append P (x ∷ xs) ys h each = (h.0, all-append P xs ys h.1 each)

distinct-append : {K : Type 0} (e : K → K → Bool) (xs ys : List K) → IsDistinct e xs → IsDistinct e ys
    → ((x y : K) → Contains xs x → Contains ys y → e x y ≡ false) → IsDistinct e (xs ++ ys)
distinct-append e [] ys a b cross = b
distinct-append e (x ∷ xs) ys a b cross =
    IsDistinct-cons e x (xs ++ ys)
    (all-append (λ y. e x y ≡ false) xs ys (IsDistinct-head e x xs a) (λ y m. cross x y (Contains-first x xs) m))
    (distinct-append e xs ys (IsDistinct-tail e x xs a) b (λ z y m n. cross z y (Contains-rest x z xs m) n))

-- keys that differ are not the same
differ : (a b : List ℕ) → (a ≡ b → ⊥) → same a b ≡ false
differ a b other =
    elim (cases_Bool (same a b)) [
      | inl t ↦ absurd (other (tells_apart (slice_cmp-IsAntisymmetric nat_cmp-IsAntisymmetric) a b t))
      | inr f ↦ f
    ]

pub none-gathered : (layout : Layout) (run : List Turn) (stamp : ℕ) (from : List ℕ) (to : Option (List ℕ))
    (pairs : List Pair) → pairs ≡ [] → ArePairsOf layout run stamp from to 0 pairs
unfolding IsStrictlySortedBy
none-gathered layout run stamp from to pairs e =
    subst (λ ps. ArePairsOf layout run stamp from to 0 ps) (sym e) (record {
      apart = IsDistinct-from_sorted (slice_cmp nat_cmp) [] tt;
      exact = λ key value. (
        λ m. absurd (Contains-none (record { key = key; value = value }) m),
        λ is. absurd (let l : layout.store_of key < 0 = is.1 in omega (arith, l)),
      );
    })

-- what a store answers of a key is the answer of the key's store, which is this one
own : (layout : Layout) (run : List Turn) (n : ℕ) (key value : List ℕ) (stamp : ℕ)
    → ((s : ℕ) (k : List ℕ) (at : ℕ) → (layout.store_of k ≡ s → ⊥) → answer (writes (past_of layout s run)) k at ≡ None)
    → answer (writes (past_of layout n run)) key stamp ≡ Some value → layout.store_of key ≡ n
own layout run n key value stamp stay is =
    elim (cases_eq (layout.store_of key) n) [
      | inl e ↦ e
      | inr other ↦ absurd (let e : None ≡ Some value = sym (stay n key stamp other) ∙ is in cc)
    ]

-- the pairs of one store more
pub next-gathered : (layout : Layout) (run : List Turn) (stamp : ℕ) (from : List ℕ) (to : Option (List ℕ)) (n : ℕ)
    (rows : List Row) (old fresh new : List Pair)
    → ((s : ℕ) (k : List ℕ) (at : ℕ) → (layout.store_of k ≡ s → ⊥) → answer (writes (past_of layout s run)) k at ≡ None)
    → ArePairsOf layout run stamp from to n old → AreAnswers rows stamp (IsBetween from to) (map of_pair fresh)
    → new ≡ old ++ fresh
    → ((key : List ℕ) → answer rows key stamp ≡ answer (writes (past_of layout n run)) key stamp)
    → ArePairsOf layout run stamp from to (n + 1) new
next-gathered layout run stamp from to n rows old fresh new stay h are appended alike =
    let at-own : (key value : List ℕ) → Contains fresh (record { key = key; value = value })
    → IsBetween from to key × (layout.store_of key ≡ n)
    × (answer (writes (past_of layout n run)) key stamp ≡ Some value) =
    λ key value m.
    let is = (are.exact key value).0 (Contains-map of_pair fresh (record { key = key; value = value }) m) in
    let answers' : answer (writes (past_of layout n run)) key stamp ≡ Some value = sym (alike key) ∙ is.1 in
    (is.0, own layout run n key value stamp stay answers', answers') in
    subst (λ ps. ArePairsOf layout run stamp from to (n + 1) ps) (sym appended) (record {
      apart = subst (λ ks. IsDistinct same ks) (sym (map-append key_of old fresh))
          (distinct-append same (map key_of old) (map key_of fresh) h.apart
          (subst (λ ks. IsDistinct same ks) (keys fresh)
          (IsDistinct-from_sorted (slice_cmp nat_cmp) (map (λ (answer : List ℕ × List ℕ). answer.0) (map of_pair fresh))
          are.ascending))
          (λ x y m k. differ x y (λ e.
          let p = from_map key_of old x m in
          let q = from_map key_of fresh y k in
          let low : layout.store_of p.0.key < n = ((h.exact p.0.key p.0.value).0 p.1).1 in
          let at' : layout.store_of q.0.key ≡ n = (at-own q.0.key q.0.value q.1).1 in
          let one : layout.store_of p.0.key ≡ layout.store_of q.0.key =
          ap (λ k'. layout.store_of k') (p.2 ∙ e ∙ sym q.2) in
          omega (arith, low, at', one))));
      exact = λ key value. (
        λ m.
            elim (Contains-append_cases old fresh (record { key = key; value = value }) m) [
              | inl before ↦
                  let is = (h.exact key value).0 before in
                  let low : layout.store_of key < n = is.1 in
                  let low' : layout.store_of key < n + 1 = omega (arith, low) in (is.0, low', is.2)
              | inr now ↦
                  let is = at-own key value now in
                  let e : layout.store_of key ≡ n = is.1 in
                  let low' : layout.store_of key < n + 1 = omega (arith, e) in (
                    is.0,
                    low',
                    subst (λ s. answer (writes (past_of layout s run)) key stamp ≡ Some value) (sym e) is.2,
                  )
            ],
        λ is.
            elim (cases_eq (layout.store_of key) n) [
              | inl e ↦ Contains-append_right old fresh (record { key = key; value = value })
                  (subst (λ ps. Contains ps (record { key = key; value = value })) (back fresh)
                  (Contains-map to_pair (map of_pair fresh) (key, value)
                  ((are.exact key value).1 (
                    is.0,
                    alike key ∙ subst (λ s. answer (writes (past_of layout s run)) key stamp ≡ Some value) e is.2,
                  ))))
              | inr e ↦
                  let low : layout.store_of key < n + 1 = is.1 in
                  let low' : layout.store_of key < n = omega (arith, low, e) in
                  Contains-append_left old fresh (record { key = key; value = value })
                  ((h.exact key value).1 (is.0, low', is.2))
            ],
      );
    })

-- the pairs of one store more, as its snapshot sees them
pub next-seen : (layout : Layout) (run : List Turn) (stamp : ℕ) (from : List ℕ) (to : Option (List ℕ)) (n id : ℕ)
    (seen : Seen) (old fresh new : List Pair)
    → ((s : ℕ) (k : List ℕ) (at : ℕ) → (layout.store_of k ≡ s → ⊥) → answer (writes (past_of layout s run)) k at ≡ None)
    → ArePairsOf layout run stamp from to n old → Views id (past_of layout n run) (Some seen)
    → stamp_of id (past_of layout n run) ≡ Some stamp
    → AreAnswers seen.rows seen.stamp (IsBetween from to) (map of_pair fresh) → new ≡ old ++ fresh
    → ArePairsOf layout run stamp from to (n + 1) new
next-seen layout run stamp from to n id seen old fresh new stay h views is are appended =
    let same-stamp : seen.stamp ≡ stamp = some-same seen.stamp stamp (sym views.0 ∙ is) in
    next-gathered layout run stamp from to n seen.rows old fresh new stay h
    (subst (λ k. AreAnswers seen.rows k (IsBetween from to) (map of_pair fresh)) same-stamp are) appended
    (λ key. subst (λ k. answer seen.rows key k ≡ answer (writes (past_of layout n run)) key k) same-stamp (views.1 key))

-- a snapshot that is open is seen
pub seen-shut : (id : ℕ) (past : List Step) (stamp : ℕ) (result : Option Seen) → Views id past result
    → stamp_of id past ≡ Some stamp → result ≡ None → ⊥
seen-shut id past stamp None views is e = let e' : None ≡ Some stamp = sym views ∙ is in cc
seen-shut id past stamp (Some seen) views is e = cc

-- the pairs of all stores, sorted
pub gathered : (layout : Layout) (run : List Turn) (stamp : ℕ) (from : List ℕ) (to : Option (List ℕ))
    (pairs sorted : List Pair) → IsLegal layout run → AreNewestIssued layout run stamp
    → ArePairsOf layout run stamp from to layout.stores pairs → IsPermutation pairs sorted
    → (HaveKeysApart pairs → IsStrictlySortedBy (slice_cmp nat_cmp) (map (λ (pair : Pair). pair.key) sorted))
    → IsListingBetween (issued_writes layout run) stamp from to sorted
gathered layout run stamp from to pairs sorted legal newest h moved up = record {
  ascending = up h.apart;
  exact = λ key value. (
    λ m.
        let is = (h.exact key value).0
        (Contains-permutation sorted pairs _ (IsPermutation-sym pairs sorted moved) m) in
        (is.0, sym (newest key stamp (omega arith)) ∙ is.2),
    λ is.
        let answers' : answer (writes (past_of layout (layout.store_of key) run)) key stamp ≡ Some value =
        newest key stamp (omega arith) ∙ is.1 in
        let inside : layout.store_of key < layout.stores =
        elim (cases_lt (layout.store_of key) layout.stores) [
          | inl low ↦ low
          | inr past ↦
              absurd (let none : answer (writes (past_of layout (layout.store_of key) run)) key stamp ≡ None =
              ap (λ p. answer (writes p) key stamp) (past-none layout run (layout.store_of key) legal past).1
              ∙ answer_none [] key stamp (newest_nil key stamp) in
              let e : None ≡ Some value = sym none ∙ answers' in cc)
        ] in
        Contains-permutation pairs sorted _ moved ((h.exact key value).1 (is.0, inside, answers')),
  );
}

only-less : (o p : Ordering) → o ≡ ordering_reverse p → is_lt p ≡ false → (o ≡ Equal → ⊥) → o ≡ Less
only-less o Less e lt apart = cc
only-less o Equal e lt apart = absurd (apart e)
only-less o Greater e lt apart = e

-- sorted pairs ascend, if no two have one key
pub sorted-ascend : (pairs sorted : List Pair) → IsPermutation pairs sorted
    → IsSorted (λ (a b : Pair). slice_cmp nat_cmp a.key b.key) sorted → HaveKeysApart pairs
    → IsStrictlySortedBy (slice_cmp nat_cmp) (map (λ (pair : Pair). pair.key) sorted)
sorted-ascend pairs sorted moved up apart =
    let ks : List (List ℕ) = map key_of sorted in
    let many : length ks ≡ length sorted = length-map sorted key_of in
    let distinct : IsDistinct same ks =
    IsDistinct-IsPermutation same (eq_by_cmp_equiv nat_list_cmp_total).symm (map key_of pairs) ks
    (IsPermutation-map key_of pairs sorted moved) apart in
    sorted_from_all_adjacent nat_list_cmp_total ks [] (λ k within.
    let w : k + 1 < length ks = within in
    let d : Pair = record { key = []; value = [] } in
    let a : List ℕ = get_or ks k [] in
    let b : List ℕ = get_or ks (k + 1) [] in
    let a-is : a ≡ key_of (get_or sorted k d) = get_or-map key_of sorted k d [] (omega (arith, w, many)) in
    let b-is : b ≡ key_of (get_or sorted (k + 1) d) = get_or-map key_of sorted (k + 1) d [] (omega (arith, w, many)) in
    let not-below : is_lt (slice_cmp nat_cmp b a) ≡ false =
    ap₂ (λ x y. is_lt (slice_cmp nat_cmp x y)) b-is a-is ∙ up k d (omega arith) (omega (arith, w, many)) in
    only-less (slice_cmp nat_cmp a b) (slice_cmp nat_cmp b a) (nat_list_cmp_total.antisymm a b) not-below (λ equal.
    let tied : same a b ≡ true = ap is_eq equal in
    let other : same a b ≡ false = apart_from_distinct same ks k (k + 1) [] distinct (omega arith) within in
    absurd (let e : true ≡ false = sym tied ∙ other in cc)))

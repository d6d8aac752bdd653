-- The snapshot with an id, found where the lower ids end: the ids ascend, so it is there or nowhere.
use Rattle.std.proofs.Common.{subst, ◌≡◌, ◌≢◌, ℕ, suc, ◌<◌, ◌≤◌, List, [], ◌∷◌, Some, None, refl, sym, ◌∙◌, inl, inr}
use Rattle.std.proofs.Common.{arith, true, false, zero, get_or, All, length, nat_lt, AllPairs}
use Rattle.std.specs.List.Sorted.{IsNonDecreasingBy, IsPartitionPoint}
use Rattle.std.proofs.lemmas.Bool.{cases_eq, cases_lt, Decides.nat_tests}
use Rattle.std.proofs.lemmas.List.Elements.{All-head, All-tail}
use Rattle.hlc_snapshot.specs.{declared.snapshot.Snapshot.Snapshot, RegistryView.stamp_in}
use Rattle.hlc_snapshot.proofs.RegisterLemmas.{stamp_in-hit, stamp_in-miss}
use Rattle.hlc_snapshot.proofs.Rising.{IsOlder, pairs-tail}

pub ids-non_decreasing : (xs : List Snapshot) → AllPairs IsOlder xs → IsNonDecreasingBy (λ snapshot. snapshot.id) xs
ids-non_decreasing xs pairs i j d le lt =
    elim (cases_eq i j) [
      | inl same ↦ subst (λ k. (get_or xs i d).id ≤ (get_or xs k d).id) same (omega arith)
      | inr apart ↦ (let less = pairs i j d (omega (arith, le, apart)) lt in omega (arith, less))
    ]

stamp_in-none : (id : ℕ) (xs : List Snapshot) → All (λ snapshot. snapshot.id ≢ id) xs → stamp_in id xs ≡ None
stamp_in-none id [] others = refl
stamp_in-none id (x ∷ xs) others =
    stamp_in-miss id x xs (All-head (λ snapshot. snapshot.id ≢ id) x xs others)
    ∙ stamp_in-none id xs (All-tail (λ snapshot. snapshot.id ≢ id) x xs others)

-- each snapshot is found by its id
stamp_in-at : (xs : List Snapshot) → AllPairs IsOlder xs → (i : ℕ) (d : Snapshot) → i < length xs
    → stamp_in (get_or xs i d).id xs ≡ Some (get_or xs i d).stamp
stamp_in-at [] pairs i d inside = absurd (omega (arith, inside))
stamp_in-at (x ∷ xs) pairs zero d inside = stamp_in-hit x.id x xs refl
stamp_in-at (x ∷ xs) pairs (suc i) d inside =
    let less = pairs 0 (suc i) d (omega arith) inside in
    stamp_in-miss (get_or xs i d).id x xs (λ same. omega (arith, less, same))
    ∙ stamp_in-at xs (pairs-tail x xs pairs) i d (omega (arith, inside))

-- the lower ids come first
abbrev pub IsFront : ℕ → List Snapshot → ℕ → Type 0
IsFront id xs n =
    IsPartitionPoint (λ snapshot. nat_lt snapshot.id id ≡ true) (λ snapshot. nat_lt snapshot.id id ≡ false) xs n

pub stamp_in-found : (xs : List Snapshot) (id n : ℕ) (x : Snapshot) → AllPairs IsOlder xs → n < length xs
    → x ≡ get_or xs n x → x.id ≡ id → stamp_in id xs ≡ Some x.stamp
stamp_in-found xs id n x pairs inside here same =
    subst (λ k. stamp_in k xs ≡ Some x.stamp) same
    (subst (λ (y : Snapshot). stamp_in y.id xs ≡ Some y.stamp) (sym here) (stamp_in-at xs pairs n x inside))

-- if the first snapshot that is not lower has another id, all have
differs : (xs : List Snapshot) (id n : ℕ) → AllPairs IsOlder xs → IsFront id xs n
    → ((d : Snapshot) → n < length xs → (get_or xs n d).id ≢ id) → All (λ snapshot. snapshot.id ≢ id) xs
differs xs id n pairs (front, back) other i d inside =
    elim (cases_lt i n) [
      | inl less ↦ λ same. (let low = front i d (omega arith) less in grind (arith, nat_tests))
      | inr from ↦ elim (cases_eq n i) [
        | inl same ↦ subst (λ k. (get_or xs k d).id ≢ id) same
            (other d (omega (arith, same, inside)))
        | inr apart ↦ λ same.
            let high = back n d (omega arith) (omega (arith, from, inside)) in
            let less = pairs n i d (omega (arith, from, apart)) inside in grind (arith, nat_tests)
      ]
    ]

-- and then the id is not there
pub stamp_in-missing : (xs : List Snapshot) (id n : ℕ) → AllPairs IsOlder xs → IsFront id xs n
    → ((d : Snapshot) → n < length xs → (get_or xs n d).id ≢ id) → stamp_in id xs ≡ None
stamp_in-missing xs id n pairs point other = stamp_in-none id xs (differs xs id n pairs point other)

-- The keys of the rows, each once and in byte order: inserting a key at its position preserves this.
use Rattle.std.proofs.Common.{Contains, All, nat_cmp, Less, Equal, refl, ap, ◌∙◌, subst, inl, inr, Greater, ◌≡◌, ℕ}
use Rattle.std.proofs.Common.{List, [], ◌∷◌}
use Rattle.std.specs.{Cmp.Lexicographic.slice_cmp, Ordering.ordering_reverse, List.Sorted.IsStrictlySortedBy}
use Rattle.std.specs.FinMap.{slice_cmp-IsAntisymmetric, nat_cmp-IsAntisymmetric}
use Rattle.std.proofs.lemmas.Cmp.{nat_list_cmp_total}
use Rattle.std.proofs.lemmas.List.Elements.{All-from_recursion, All-weaker, All-head, All-tail, All-cons}
use Rattle.std.proofs.lemmas.List.Elements.{recursion_from_All}
use Rattle.hlc_values.proofs.MemberLemmas.{Contains-none, Contains-cons_cases, Contains-first, Contains-rest}
use Rattle.hlc_rows.specs.declared.row.Row.{Row}
use Rattle.hlc_witness.specs.AllChanges.{placed, with_key, keys_of}

below_with : (j key : List ℕ) (ks : List (List ℕ)) → slice_cmp nat_cmp j key ≡ Less
    → All (λ l. slice_cmp nat_cmp j l ≡ Less) ks → All (λ l. slice_cmp nat_cmp j l ≡ Less) (with_key key ks)
unfolding with_key
below_with j key [] h all = All-cons (λ l. slice_cmp nat_cmp j l ≡ Less) key [] h all
below_with j key (k ∷ ks) h all =
    elim (slice_cmp nat_cmp key k) as (λ o. All (λ l. slice_cmp nat_cmp j l ≡ Less)
    (placed o key k ks (with_key key ks))) [
      | Less ↦ All-cons (λ l. slice_cmp nat_cmp j l ≡ Less) key (k ∷ ks) h all
      | Equal ↦ all
      | Greater ↦ All-cons (λ l. slice_cmp nat_cmp j l ≡ Less) k (with_key key ks)
          (All-head (λ l. slice_cmp nat_cmp j l ≡ Less) k ks all)
          (below_with j key ks h (All-tail (λ l. slice_cmp nat_cmp j l ≡ Less) k ks all))
    ]

with_sorted : (key : List ℕ) (ks : List (List ℕ)) → IsStrictlySortedBy (slice_cmp nat_cmp) ks
    → IsStrictlySortedBy (slice_cmp nat_cmp) (with_key key ks)
unfolding with_key IsStrictlySortedBy
with_sorted key [] up = (tt, tt)
with_sorted key (k ∷ ks) up =
    let below : All (λ l. slice_cmp nat_cmp k l ≡ Less) ks =
    All-from_recursion (λ l. slice_cmp nat_cmp k l ≡ Less) ks up.0 in
    elim (slice_cmp nat_cmp key k) as (λ o. slice_cmp nat_cmp key k ≡ o
    → IsStrictlySortedBy (slice_cmp nat_cmp) (placed o key k ks (with_key key ks))) [
      | Less ↦ λ e. (
        recursion_from_All (λ l. slice_cmp nat_cmp key l ≡ Less) (k ∷ ks)
            (All-cons (λ l. slice_cmp nat_cmp key l ≡ Less) k ks e (All-weaker (λ l. slice_cmp nat_cmp k l ≡ Less)
            (λ l. slice_cmp nat_cmp key l ≡ Less) (λ l h. nat_list_cmp_total.trans key k l e h) ks below)),
        up,
      )
      | Equal ↦ λ e. up
      | Greater ↦ λ e.
          let back : slice_cmp nat_cmp k key ≡ Less = nat_list_cmp_total.antisymm k key ∙ ap ordering_reverse e in (
            recursion_from_All (λ l. slice_cmp nat_cmp k l ≡ Less) (with_key key ks) (below_with k key ks back below),
            with_sorted key ks up.1,
          )
    ] refl

with_old : (key l : List ℕ) (ks : List (List ℕ)) → Contains ks l → Contains (with_key key ks) l
unfolding with_key
with_old key l [] i = absurd (Contains-none l i)
with_old key l (k ∷ ks) i =
    elim (slice_cmp nat_cmp key k) as (λ o. Contains (placed o key k ks (with_key key ks)) l) [
      | Less ↦ Contains-rest key l (k ∷ ks) i
      | Equal ↦ i
      | Greater ↦ elim (Contains-cons_cases k l ks i) [
        | inl e ↦ subst (Contains (k ∷ with_key key ks)) e (Contains-first k (with_key key ks))
        | inr r ↦ Contains-rest k l (with_key key ks) (with_old key l ks r)
      ]
    ]

with_new : (key : List ℕ) (ks : List (List ℕ)) → Contains (with_key key ks) key
unfolding with_key
with_new key [] = Contains-first key []
with_new key (k ∷ ks) =
    elim (slice_cmp nat_cmp key k) as (λ o. slice_cmp nat_cmp key k ≡ o
    → Contains (placed o key k ks (with_key key ks)) key) [
      | Less ↦ λ e. Contains-first key (k ∷ ks)
      | Equal ↦ λ e. subst (λ x. Contains (x ∷ ks) key) (slice_cmp-IsAntisymmetric nat_cmp-IsAntisymmetric key k e)
          (Contains-first key ks)
      | Greater ↦ λ e. Contains-rest k key (with_key key ks) (with_new key ks)
    ] refl

pub keys_sorted : (rows : List Row) → IsStrictlySortedBy (slice_cmp nat_cmp) (keys_of rows)
unfolding keys_of IsStrictlySortedBy
keys_sorted [] = tt
keys_sorted (v ∷ rows) = with_sorted v.key (keys_of rows) (keys_sorted rows)

pub keys_every : (rows : List Row) (v : Row) → Contains rows v → Contains (keys_of rows) v.key
unfolding keys_of
keys_every [] v i = absurd (Contains-none v i)
keys_every (w ∷ ws) v i =
    elim (Contains-cons_cases w v ws i) [
      | inl e ↦ subst (λ (x : Row). Contains (with_key w.key (keys_of ws)) x.key) e (with_new w.key (keys_of ws))
      | inr r ↦ with_old w.key v.key (keys_of ws) (keys_every ws v r)
    ]

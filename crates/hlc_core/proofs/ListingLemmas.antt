-- There is one listing at a stamp: two lists with the same pairs, each ascending by key, are equal, since no pair is
-- before itself.
use Rattle.std.proofs.Common.{◌≡◌, ℕ, ◌<◌, List, get_or, map, sym, ap₂, ◌∙◌, subst, arith, Less, Equal, nat_cmp}
use Rattle.std.specs.{Cmp.Lexicographic.slice_cmp, List.AllPairs, List.Sorted.IsStrictlySortedBy}
use Rattle.std.proofs.lemmas.Cmp.{nat_list_cmp_total, tied_itself}
use Rattle.std.proofs.lemmas.{List.get_or-map, List.length-map, Map.Keys.Less-from_sorted}
use Rattle.hlc_values.proofs.SortedLemmas.{same_members}
use Rattle.hlc_rows.specs.declared.row.Row.{Row}
use Rattle.hlc_core.specs.{declared.listing.Pair.Pair, Listing.IsListing}

-- the key of one pair is before that of the other
abbrev IsBefore : Pair → Pair → Type 0
IsBefore a b = slice_cmp nat_cmp a.key b.key ≡ Less

not_both : (a b : Pair) → IsBefore a b → IsBefore b a → ⊥
not_both a b up down =
    let e : Equal ≡ Less = sym (tied_itself nat_list_cmp_total a.key)
    ∙ nat_list_cmp_total.trans a.key b.key a.key up down in cc

ascending : (pairs : List Pair) → IsStrictlySortedBy (slice_cmp nat_cmp) (map (λ pair. pair.key) pairs)
    → AllPairs IsBefore pairs
ascending pairs up = λ i j d before within.
    let key : Pair → List ℕ = λ pair. pair.key in
    let less : slice_cmp nat_cmp (get_or (map key pairs) i d.key) (get_or (map key pairs) j d.key) ≡ Less =
    Less-from_sorted (slice_cmp nat_cmp) (map key pairs) i j d.key up before
    (subst (λ n. j < n) (sym (length-map pairs key)) within) in
    sym (ap₂ (slice_cmp nat_cmp) (get_or-map key pairs i d d.key (omega (arith, before, within)))
    (get_or-map key pairs j d d.key within))
    ∙ less

-- there is one listing of some rows at a stamp
pub one-listing : (rows : List Row) (stamp : ℕ) (listing other : List Pair) → IsListing rows stamp listing
    → IsListing rows stamp other → listing ≡ other
one-listing rows stamp listing other is also =
    same_members IsBefore not_both listing other (ascending listing is.ascending) (ascending other also.ascending)
    (λ z. (
      λ m. (also.exact z.key z.value).1 ((is.exact z.key z.value).0 m),
      λ m. (is.exact z.key z.value).1 ((also.exact z.key z.value).0 m),
    ))

-- Ascending rows and witnesses by their positions: an order is total, so if neighbours are in order the list is in
-- order, and what is above the last of an ascending list is above all of it.
use Rattle.std.proofs.Common.{nat_cmp, Less, Ordering, Some, length, get_or, drop, refl, sym, ap, ◌∙◌, subst, inl, inr}
use Rattle.std.proofs.Common.{arith, true, slice_get, is_lt, take, ◌≡◌, ℕ, List, [], ◌∷◌, ◌-◌, ◌<◌, ◌+◌, ◌++◌, ap₂}
use Rattle.std.specs.{List.Sorted.IsStrictlySortedBy, Ordering.is_gt}
use Rattle.std.proofs.lemmas.Bool.{cases_order, Decides.nat_tests}
use Rattle.std.proofs.lemmas.List.{drop_more, take_more, get_or_read, take-append-drop, Elements.All-contains}
use Rattle.std.proofs.lemmas.Map.Keys.{Less-from_sorted, sorted_from_all_adjacent}
use Rattle.std.proofs.lemmas.Option.{slice_get_within, get_or_from_slice_get}
use Rattle.hlc_values.proofs.MemberLemmas.{Contains-none, Contains-cons_cases}
use Rattle.hlc_rows.specs.declared.row.Row.{Row}
use Rattle.hlc_witness.specs.{Certificate.RowsAscend, Certificate.row_cmp, Changes.ChangesAscend, Changes.change_cmp}
use Rattle.hlc_witness.specs.{Reasons.IsAbove, declared.witness.Witness.Witness}
use Rattle.hlc_witness.proofs.{ListedLemmas.sorted_append, Orders.change_cmp_total, Orders.row_cmp_total}

pub rows_from_neighbours : (rows : List Row)
    → ((k : ℕ) (d : Row) → k + 1 < length rows → row_cmp (get_or rows k d) (get_or rows (k + 1) d) ≡ Less)
    → RowsAscend rows
unfolding IsStrictlySortedBy
rows_from_neighbours [] each = tt
rows_from_neighbours (row ∷ rows) each = sorted_from_all_adjacent row_cmp_total (row ∷ rows) row (λ k lt. each k row lt)

pub neighbours : (rows : List Row) (i : ℕ) (a b : Row) → 0 < i → i < length rows → a ≡ get_or rows (i - 1) a
    → b ≡ get_or rows i b → RowsAscend rows → row_cmp a b ≡ Less
neighbours rows i a b pos lt is_a is_b up =
    ap₂ row_cmp is_a (get_or_read rows i b lt is_b a) ∙ Less-from_sorted row_cmp rows (i - 1) i a up (omega arith) lt

pub above_all : (front : List Witness) (last witness : Witness) → ChangesAscend front
    → slice_get front (length front - 1) ≡ Some last → change_cmp last witness ≡ Less → IsAbove front witness
above_all front last witness up is less k d lt =
    let within : length front - 1 < length front = slice_get_within front (length front - 1) last is in
    let at_end : get_or front (length front - 1) d ≡ last = get_or_from_slice_get front (length front - 1) last d is in
    elim (cases_order k (length front - 1)) [
      | inl same ↦ ap (λ n. change_cmp (get_or front n d) witness) same ∙ ap (λ w. change_cmp w witness) at_end ∙ less
      | inr (inl below) ↦
          change_cmp_total.trans (get_or front k d) last witness
          (subst (λ w. change_cmp (get_or front k d) w ≡ Less) at_end
          (Less-from_sorted change_cmp front k (length front - 1) d up below within)) less
      | inr (inr above) ↦ absurd (omega arith)
    ]

pub above_last : (front : List Witness) (last witness : Witness) → slice_get front (length front - 1) ≡ Some last
    → IsAbove front witness → change_cmp last witness ≡ Less
above_last front last witness is all =
    All-contains (λ other. change_cmp other witness ≡ Less) front last all (
      length front - 1,
      slice_get_within front (length front - 1) last is,
      get_or_from_slice_get front (length front - 1) last last is,
    )

pub is_lt-true : (o : Ordering) → is_lt o ≡ true → o ≡ Less
is_lt-true Less h = refl
is_lt-true _ h = cc

pub is_gt-above : (x y : ℕ) → is_gt (nat_cmp x y) ≡ true → y < x
is_gt-above x y h = grind (arith, nat_tests)

pub none_ascend : ChangesAscend []
unfolding IsStrictlySortedBy
none_ascend = tt

-- one more witness
pub ascend_more : (witnesses : List Witness) (i : ℕ) (witness : Witness) → i < length witnesses
    → witness ≡ get_or witnesses i witness → ChangesAscend (take i witnesses) → IsAbove (take i witnesses) witness
    → ChangesAscend (take (i + 1) witnesses)
unfolding IsStrictlySortedBy
ascend_more witnesses i witness lt is up above =
    subst (λ ws. ChangesAscend ws) (ap (λ w. take i witnesses ++ w ∷ []) is ∙ sym (take_more witnesses i witness lt))
    (sorted_append change_cmp (take i witnesses) (witness ∷ []) up (tt, tt) (λ x y in_front in_one.
    elim (Contains-cons_cases witness y [] in_one) [
      | inl same ↦ subst (λ w. change_cmp x w ≡ Less) same
          (All-contains (λ other. change_cmp other witness ≡ Less) (take i witnesses) x above in_front)
      | inr none ↦ absurd (Contains-none y none)
    ]))

-- a list is the part before a position, the member there, and the part after it
pub around : (witnesses : List Witness) (i : ℕ) (witness : Witness) → i < length witnesses
    → witness ≡ get_or witnesses i witness → witnesses ≡ take i witnesses ++ witness ∷ drop (i + 1) witnesses
around witnesses i witness lt is =
    sym (take-append-drop i witnesses) ∙ ap (λ ws. take i witnesses ++ ws)
    (drop_more witnesses i witness lt ∙ ap (λ w. w ∷ drop (i + 1) witnesses) (sym is))

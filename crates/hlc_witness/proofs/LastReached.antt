-- The last row that does not come after a key and a stamp is the key's newest row there, if it is of that key: in
-- ascending rows the rows that do not come after them come first, each candidate is one of them, and the last of them
-- is the greatest.
use Rattle.std.proofs.Common.{Contains, nat_cmp, Less, Equal, Ordering, Some, None, length, get_or, refl, sym, ap, ◌∙◌}
use Rattle.std.proofs.Common.{subst, ◌⊎◌, inl, inr, arith, true, false, Greater, ◌≡◌, ◌≢◌, ℕ, ◌≤◌, List, ◌-◌, ◌<◌}
use Rattle.std.specs.Cmp.{IsTotalOrder, Lexicographic.slice_cmp}
use Rattle.std.specs.FinMap.{slice_cmp-IsAntisymmetric, nat_cmp-IsAntisymmetric}
use Rattle.std.specs.List.Sorted.{IsPartitionedBy, IsPartitionPoint}
use Rattle.std.specs.Ordering.{ordering_reverse, ordering_then, is_gt, is_le}
use Rattle.std.proofs.lemmas.Bool.{cases_lt, cases_order, both_ways, Decides.nat_tests}
use Rattle.std.proofs.lemmas.Cmp.{nat_cmp_total, nat_list_cmp_total, on_total, then_total, tied_itself, upto, ranked}
use Rattle.std.proofs.lemmas.{List.get_or_default, List.Elements.Contains-get_or, Map.Keys.Less-from_sorted}
use Rattle.hlc_rows.specs.{Rows.newest, Rows.IsNoLater, declared.row.Row.Row}
use Rattle.hlc_rows.proofs.NewestLemmas.{newest_is_greatest, newest_is_unique}
use Rattle.hlc_witness.specs.{Certificate.RowsAscend, Certificate.row_cmp, Reached.is_reached}
use Rattle.hlc_witness.proofs.CertificateLemmas.{ascending_rows_are_a_row_set}

-- rows by key and stamp
abbrev slot_cmp : Row → Row → Ordering
slot_cmp a b = ordering_then (slice_cmp nat_cmp a.key b.key) (nat_cmp a.stamp b.stamp)

slot_cmp_total : IsTotalOrder slot_cmp
slot_cmp_total = then_total (on_total (λ (row : Row). row.key) nat_list_cmp_total)
    (on_total (λ (row : Row). row.stamp) nat_cmp_total)

abbrev slot : List ℕ → ℕ → Row
slot key bound = record { key = key; stamp = bound; node = 0; value = None }

le-not_gt : (o : Ordering) → is_le o ≡ true → is_gt o ≡ false
le-not_gt Greater h = cc
le-not_gt _ h = refl

not_gt-le : (o : Ordering) → is_gt o ≡ false → is_le o ≡ true
not_gt-le Greater h = cc
not_gt-le _ h = refl

-- what is less by key, stamp and node is no greater by key and stamp
less-not_gt : (o s n : Ordering) → ordering_then o (ordering_then s n) ≡ Less → is_gt (ordering_then o s) ≡ false
less-not_gt Less s n h = refl
less-not_gt Equal Greater n h = cc
less-not_gt Greater s n h = cc
less-not_gt Equal _ n h = refl

-- what is less by key, stamp and node is no greater by key
less-key_not_gt : (o s : Ordering) → ordering_then o s ≡ Less → is_gt o ≡ false
less-key_not_gt Greater s h = cc
less-key_not_gt _ s h = refl

-- the rows that do not come after the key and the stamp come first
pub partitioned : (rows : List Row) (key : List ℕ) (bound : ℕ) → RowsAscend rows
    → IsPartitionedBy (is_reached key bound) rows
partitioned rows key bound up i j d le lt h =
    elim (cases_order i j) [
      | inl same ↦ ap (λ n. is_reached key bound (get_or rows n d)) same ∙ h
      | inr (inl below) ↦
          let a : Row = get_or rows i d in
          let b : Row = get_or rows j d in
          let less : row_cmp a b ≡ Less = Less-from_sorted row_cmp rows i j d up below lt in
          not_gt-le (slot_cmp a (slot key bound))
          (upto slot_cmp_total a b (slot key bound)
          (less-not_gt (slice_cmp nat_cmp a.key b.key) (nat_cmp a.stamp b.stamp) (nat_cmp a.node b.node) less)
          (le-not_gt (slot_cmp b (slot key bound)) h))
      | inr (inr above) ↦ absurd (omega arith)
    ]

keys_tied : (a b : List ℕ) → a ≡ b → slice_cmp nat_cmp a b ≡ Equal
keys_tied a b same = ap (slice_cmp nat_cmp a) (sym same) ∙ tied_itself nat_list_cmp_total a

le-is_le : (x y : ℕ) → x ≤ y → is_le (nat_cmp x y) ≡ true
le-is_le x y le = grind (arith, nat_tests)

is_le-le : (x y : ℕ) → is_le (nat_cmp x y) ≡ true → x ≤ y
is_le-le x y h = grind (arith, nat_tests)

candidate-reached : (row : Row) (key : List ℕ) (bound : ℕ) → row.key ≡ key → row.stamp ≤ bound
    → is_reached key bound row ≡ true
candidate-reached row key bound same le =
    ap (λ o. is_le (ordering_then o (nat_cmp row.stamp bound))) (keys_tied row.key key same)
    ∙ le-is_le row.stamp bound le

reached-below : (row : Row) (key : List ℕ) (bound : ℕ) → row.key ≡ key → is_reached key bound row ≡ true
    → row.stamp ≤ bound
reached-below row key bound same h = is_le-le row.stamp bound
    (sym (ap (λ o. is_le (ordering_then o (nat_cmp row.stamp bound))) (keys_tied row.key key same)) ∙ h)

-- what is no greater by key and stamp is no greater by key
first_key : (o s : Ordering) → is_le (ordering_then o s) ≡ true → is_gt o ≡ false
first_key Greater s h = cc
first_key _ s h = refl

no_gt_both : (o : Ordering) → is_gt o ≡ false → is_gt (ordering_reverse o) ≡ false → o ≡ Equal
no_gt_both Equal h k = refl
no_gt_both _ h k = cc

-- of two rows of one key the one that comes first is no later
first_no_later : (a b : Row) → a.key ≡ b.key → row_cmp a b ≡ Less → IsNoLater a b
first_no_later a b same less =
    let rest : ordering_then (nat_cmp a.stamp b.stamp) (nat_cmp a.node b.node) ≡ Less =
    ap (λ o. ordering_then o (ordering_then (nat_cmp a.stamp b.stamp) (nat_cmp a.node b.node)))
    (sym (keys_tied a.key b.key same)) ∙ less in
    elim (cases_order a.stamp b.stamp) [
      | inl tied ↦
          let nodes : nat_cmp a.node b.node ≡ Less =
          ap (λ o. ordering_then o (nat_cmp a.node b.node))
          (sym (ap (nat_cmp a.stamp) (sym tied) ∙ tied_itself nat_cmp_total a.stamp)) ∙ rest in
          let lt : a.node < b.node = ranked a.node b.node Less (sym nodes) in
          inr (tied, omega arith)
      | inr (inl below) ↦ inl below
      | inr (inr above) ↦
          let greater : nat_cmp a.stamp b.stamp ≡ Greater = grind (arith, nat_tests) in
          let wrong : Greater ≡ Less = ap (λ o. ordering_then o (nat_cmp a.node b.node)) (sym greater) ∙ rest in
          cc
    ]

module _ (rows : List Row) (key : List ℕ) (bound : ℕ) (end : ℕ) (up : RowsAscend rows) (parted : IsPartitionPoint
    (λ row. is_reached key bound row ≡ true) (λ row. is_reached key bound row ≡ false) rows end) where
  -- each candidate comes before the end
  candidate_before : (other : Row) → Contains rows other → other.key ≡ key → other.stamp ≤ bound
      → (j : ℕ) × (j < end) × (j < length rows) × (get_or rows j other ≡ other)
  candidate_before other (j, lt, is) same le =
      elim (cases_lt j end) [
        | inl below ↦ (j, below, lt, is)
        | inr after ↦
            let no : is_reached key bound (get_or rows j other) ≡ false = parted.1 j other after lt in
            absurd (both_ways (is_reached key bound other) (ap (is_reached key bound) (sym is) ∙ no)
            (candidate-reached other key bound same le))
      ]

  -- if the end is the start, there is none
  pub none_at_start : end ≡ 0 → None ≡ newest rows key bound
  none_at_start at_start =
      elim (newest rows key bound) as (λ o. newest rows key bound ≡ o → None ≡ o) [
        | None ↦ λ _. refl
        | Some row ↦ λ e.
            let is = newest_is_greatest rows key bound row e in
            let place = candidate_before row is.member is.of_key is.in_bound in
            let below = place.1 in
            absurd (omega arith)
      ] refl

  module _ (last : Row) (some : 0 < end) (within : end - 1 < length rows)
      (at_end : last ≡ get_or rows (end - 1) last) where
    last_reached : is_reached key bound last ≡ true
    last_reached = ap (is_reached key bound) at_end ∙ parted.0 (end - 1) last (omega arith) (omega arith)

    -- a candidate is the last row or comes before it
    before_last : (other : Row) → Contains rows other → other.key ≡ key → other.stamp ≤ bound
        → (other ≡ last) ⊎ (row_cmp other last ≡ Less)
    before_last other m same le =
        let place = candidate_before other m same le in
        let j : ℕ = place.0 in
        let below : j < end = place.1 in
        let lt : j < length rows = place.2 in
        let is : get_or rows j other ≡ other = place.3 in
        elim (cases_order j (end - 1)) [
          | inl equal ↦
              inl (sym is ∙ get_or_default rows j other last lt ∙ ap (λ n. get_or rows n last) equal ∙ sym at_end)
          | inr (inl before) ↦
              let less : row_cmp (get_or rows j last) (get_or rows (end - 1) last) ≡ Less =
              Less-from_sorted row_cmp rows j (end - 1) last up before within in
              inr (ap (λ r. row_cmp r last) (sym is ∙ get_or_default rows j other last lt)
              ∙ ap (row_cmp (get_or rows j last)) at_end ∙ less)
          | inr (inr after) ↦ absurd (omega arith)
        ]

    -- if it is of the key, it is the newest
    pub last_newest : last.key ≡ key → Some last ≡ newest rows key bound
    last_newest same =
        sym (newest_is_unique rows key bound last (ascending_rows_are_a_row_set rows up) (record {
          member = subst (Contains rows) (sym at_end) (Contains-get_or rows (end - 1) last within);
          of_key = same;
          in_bound = reached-below last key bound same last_reached;
          greatest = λ other m k s.
              elim (before_last other m k s) [
                | inl is ↦ inr (ap (λ (r : Row). r.stamp) is, (let e = ap (λ (r : Row). r.node) is in omega arith))
                | inr less ↦ first_no_later other last (k ∙ sym same) less
              ];
        }))

    -- if it is not, the key has no candidate
    pub last_other : last.key ≢ key → None ≡ newest rows key bound
    last_other differs =
        elim (newest rows key bound) as (λ o. newest rows key bound ≡ o → None ≡ o) [
          | None ↦ λ _. refl
          | Some row ↦ λ e.
              let is = newest_is_greatest rows key bound row e in
              absurd (elim (before_last row is.member is.of_key is.in_bound) [
                | inl same ↦ differs (ap (λ (r : Row). r.key) (sym same) ∙ is.of_key)
                | inr less ↦
                    let high : is_gt (slice_cmp nat_cmp row.key last.key) ≡ false =
                    less-key_not_gt (slice_cmp nat_cmp row.key last.key)
                    (ordering_then (nat_cmp row.stamp last.stamp) (nat_cmp row.node last.node)) less in
                    let low : is_gt (slice_cmp nat_cmp last.key key) ≡ false =
                    first_key (slice_cmp nat_cmp last.key key) (nat_cmp last.stamp bound) last_reached in
                    let back : slice_cmp nat_cmp row.key last.key ≡ ordering_reverse (slice_cmp nat_cmp last.key key) =
                    ap (λ k. slice_cmp nat_cmp k last.key) is.of_key ∙ nat_list_cmp_total.antisymm key last.key in
                    differs (slice_cmp-IsAntisymmetric nat_cmp-IsAntisymmetric last.key key
                    (no_gt_both (slice_cmp nat_cmp last.key key) low (sym (ap is_gt back) ∙ high)))
              ])
        ] refl

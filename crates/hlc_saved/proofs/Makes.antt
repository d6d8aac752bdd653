-- The rows of the next keys follow those of the keys so far.
use Rattle.std.proofs.Common.{◌≡◌, ℕ, zero, suc, ◌-◌, ◌<◌, List, [], ◌∷◌, ◌++◌, length, cond, Bool, true, false, refl}
use Rattle.std.proofs.Common.{sym, ap, subst, ◌∙◌, inl, inr, arith, append_assoc, Contains, IsPermutation, nat_cmp}
use Rattle.std.proofs.Common.{Ordering, Less, Equal, Greater, filter, ◌&&◌, get_or, All, ◌⊎◌, not, nat_lt, Some, None}
use Rattle.std.proofs.Common.{is_le, is_gt, flat_map, append-nil}
use Rattle.std.specs.{Ordering.ordering_reverse, Cmp.Lexicographic.slice_cmp}
use Rattle.std.specs.{BTreeMap.Comparable.le_lt_trans, List.Sorted.IsStrictlySortedBy}
use Rattle.std.proofs.lemmas.{Cmp.nat_list_cmp_total, List.length-map, List.Elements.All-head, List.Elements.All-tail}
use Rattle.std.proofs.lemmas.List.Sorted.{IsPermutation-refl, IsPermutation-sym, IsPermutation-trans}
use Rattle.std.proofs.lemmas.List.Sorted.{IsPermutation-cons, IsPermutation-append, IsPermutation-append_left}
use Rattle.std.proofs.lemmas.List.Sorted.{IsPermutation-to_front, IsPermutation-filter_both, Contains-permutation}
use Rattle.std.proofs.lemmas.List.Sorted.{length_permutation}
use Rattle.hlc_values.proofs.MemberLemmas.{Contains-none, Contains-first, Contains-rest, Contains-cons_cases}
use Rattle.hlc_values.proofs.MemberLemmas.{Contains-filter, Contains-from_filter}
use Rattle.hlc_rows.specs.declared.row.Row.{Row}
use Rattle.hlc_table_column.specs.Rows.{KeyCells, KeysAscend, keys_in, rows_in, rows_in_one, row_of}
use Rattle.hlc_table_column.proofs.RowLemmas.{key_among}
use Rattle.hlc_columns.specs.Answers.{AreNext, in_part, is_upto, part_end, last_key}
use Rattle.hlc_witness.specs.Certificate.{RowsAscend}
use Rattle.hlc_checkpoint.specs.Lent.{AreListOf}
use Rattle.hlc_checkpoint.proofs.LentLemmas.{list-same, list-ascend, ascend-append, key-less, all_less}
use Rattle.hlc_body.specs.Spelling.{row_bytes}
use Rattle.hlc_saved.specs.Saver.{rows_upto}

abbrev cmp : List ℕ → List ℕ → Ordering
cmp a b = slice_cmp nat_cmp a b

-- ---- orders

le_or_gt : (o : Ordering)
    → ((is_le o ≡ true) × (is_gt o ≡ false)) ⊎ ((is_le o ≡ false) × (o ≡ Greater))
le_or_gt Less = inl (refl, refl)
le_or_gt Equal = inl (refl, refl)
le_or_gt Greater = inr (refl, refl)

not_gt : (o : Ordering) → is_le o ≡ not (is_gt o)
not_gt Less = refl
not_gt Equal = refl
not_gt Greater = refl

gt_not_le : (o : Ordering) → (is_gt o && true) ≡ not (is_le o)
gt_not_le Less = refl
gt_not_le Equal = refl
gt_not_le Greater = refl

itself : (key : List ℕ) → is_le (cmp key key) ≡ true
itself key =
    let turned = nat_list_cmp_total.antisymm key key in
    elim (cmp key key) as (λ o. o ≡ ordering_reverse o → is_le o ≡ true) [
      | Less ↦ λ is. refl
      | Equal ↦ λ is. refl
      | Greater ↦ λ is. cc is
    ] turned

turned_less : (a b : List ℕ) → cmp a b ≡ Greater → cmp b a ≡ Less
turned_less a b gt = nat_list_cmp_total.antisymm b a ∙ ap ordering_reverse gt

-- ---- the last key

last_in : (one : KeyCells) (columns : List KeyCells)
    → (last_key one.key columns ≡ one.key) ⊎ Contains (keys_in columns) (last_key one.key columns)
last_in one [] = inl refl
last_in one (two ∷ columns) = elim (last_in two columns) [
  | inl is ↦ inr (subst (Contains (two.key ∷ keys_in columns)) (sym is) (Contains-first two.key (keys_in columns)))
  | inr m ↦ inr (Contains-rest two.key (last_key two.key columns) (keys_in columns) m)
]

head_le : (one : KeyCells) (columns : List KeyCells) → KeysAscend (one ∷ columns)
    → is_le (cmp one.key (last_key one.key columns)) ≡ true
unfolding IsStrictlySortedBy
head_le one columns up = elim (last_in one columns) [
  | inl is ↦ subst (λ k. is_le (cmp one.key k) ≡ true) (sym is) (itself one.key)
  | inr m ↦ ap is_le (all_less one.key (keys_in columns) (last_key one.key columns) up.0 m)
]

-- no key is above it
last_le : (key : List ℕ) (columns : List KeyCells) (k : List ℕ) → KeysAscend columns → Contains (keys_in columns) k
    → is_le (cmp k (last_key key columns)) ≡ true
unfolding IsStrictlySortedBy
last_le key [] k up m = absurd (Contains-none k m)
last_le key (one ∷ columns) k up m = elim (Contains-cons_cases one.key k (keys_in columns) m) [
  | inl is ↦ subst (λ x. is_le (cmp x (last_key one.key columns)) ≡ true) is (head_le one columns up)
  | inr r ↦ last_le one.key columns k up.1 r
]

-- it is one of the keys
last_among : (key : List ℕ) (one : KeyCells) (columns : List KeyCells)
    → Contains (keys_in (one ∷ columns)) (last_key key (one ∷ columns))
last_among key one columns = elim (last_in one columns) [
  | inl is ↦ subst (Contains (one.key ∷ keys_in columns)) (sym is) (Contains-first one.key (keys_in columns))
  | inr m ↦ Contains-rest one.key (last_key one.key columns) (keys_in columns) m
]

each_key : (P : List ℕ → Type 0) (columns : List KeyCells) (k : List ℕ) → All (λ one. P one.key) columns
    → Contains (keys_in columns) k → P k
each_key P [] k each m = absurd (Contains-none k m)
each_key P (one ∷ columns) k each m = elim (Contains-cons_cases one.key k (keys_in columns) m) [
  | inl is ↦ subst P is (All-head (λ (one : KeyCells). P one.key) one columns each)
  | inr r ↦ each_key P columns k (All-tail (λ (one : KeyCells). P one.key) one columns each) r
]

-- what is in a part is above the key before it
part_gt : (o : Ordering) (b : Bool) → (is_gt o && b) ≡ true → o ≡ Greater
part_gt Less b is = cc is
part_gt Equal b is = cc is
part_gt Greater b is = refl

-- ---- rows

abbrev Parted : (p q r : Row → Bool) → Row → Type 0
Parted p q r row =
    ((q row ≡ true) × (r row ≡ false) × (p row ≡ true))
    ⊎ (((q row ≡ false) × (r row ≡ true) × (p row ≡ true)) ⊎ ((q row ≡ false) × (r row ≡ false) × (p row ≡ false)))

-- rows of two kinds
parted : (p q r : Row → Bool) (rows : List Row) → ((row : Row) → Contains rows row → Parted p q r row)
    → IsPermutation (filter p rows) (filter q rows ++ filter r rows)
parted p q r [] each = IsPermutation-refl []
parted p q r (row ∷ rows) each =
    let ps : List Row = filter p rows in
    let qs : List Row = filter q rows in
    let rs : List Row = filter r rows in
    let more : IsPermutation ps (qs ++ rs) = parted p q r rows (λ x m. each x (Contains-rest row x rows m)) in
    let Goal : Bool → Bool → Bool → Type 0 =
    λ a b c. IsPermutation (cond a (row ∷ ps) ps) (cond b (row ∷ qs) qs ++ cond c (row ∷ rs) rs) in
    let at : (a b c : Bool) → p row ≡ a → q row ≡ b → r row ≡ c → Goal a b c → Goal (p row) (q row) (r row) =
    λ a b c pa qb rc so. subst (λ z. Goal z (q row) (r row)) (sym pa)
    (subst (λ z. Goal a z (r row)) (sym qb) (subst (Goal a b) (sym rc) so)) in
    elim (each row (Contains-first row rows)) [
      | inl first ↦ at true true false first.2 first.0 first.1 (IsPermutation-cons row ps (qs ++ rs) more)
      | inr other ↦ elim other [
        | inl second ↦ at true false true second.2 second.0 second.1
            (IsPermutation-trans (row ∷ ps) (row ∷ (qs ++ rs)) (qs ++ row ∷ rs)
            (IsPermutation-cons row ps (qs ++ rs) more)
            (IsPermutation-sym (qs ++ row ∷ rs) (row ∷ (qs ++ rs))
            (subst (λ l. IsPermutation l (row ∷ (qs ++ rs))) (append_assoc qs (row ∷ []) rs)
            (IsPermutation-append_left rs (qs ++ row ∷ []) (row ∷ qs) (IsPermutation-to_front qs row)))))
        | inr none ↦ at false false false none.2 none.0 none.1 more
      ]
    ]

module _ (rows : List Row) (last : List ℕ) (limit : ℕ) (one : KeyCells) (others : List KeyCells)
    (next : AreNext rows last limit (one ∷ others)) where
  abbrev columns : List KeyCells
  columns = one ∷ others

  abbrev end : List ℕ
  end = last_key last columns

  abbrev upto : List ℕ → Row → Bool
  upto key row = is_le (cmp row.key key)

  abbrev is_in : Row → Bool
  is_in row = in_part last (part_end last limit columns) row.key

  end_gt : cmp end last ≡ Greater
  end_gt =
      part_gt (cmp end last) (is_upto (part_end last limit columns) end)
      (each_key (λ key. in_part last (part_end last limit columns) key ≡ true) columns end next.inside
      (last_among last one others))

  -- a row above the last key, up to the end, is in the part
  in_upto : (row : Row) → cmp row.key last ≡ Greater → is_le (cmp row.key end) ≡ true → is_in row ≡ true
  in_upto row gt le =
      let at : (b : Bool) → (is_gt (cmp row.key last) && is_upto (cond b None (Some end)) row.key) ≡ true = λ b.
      subst (λ o. (is_gt o && is_upto (cond b None (Some end)) row.key) ≡ true) (sym gt)
      (elim b as (λ z. is_upto (cond z None (Some end)) row.key ≡ true) [
        | true ↦ refl
        | false ↦ sym (not_gt (cmp row.key end)) ∙ le
      ]) in
      at (nat_lt (length columns) limit)

  each_parted : (row : Row) → Contains rows row → Parted (upto end) (upto last) is_in row
  each_parted row m = elim (le_or_gt (cmp row.key last)) [
    | inl (le, low) ↦ inl (
      le,
      ap (λ b. b && is_upto (part_end last limit columns) row.key) low,
      ap is_le (le_lt_trans nat_list_cmp_total row.key last end le (turned_less end last end_gt)),
    )
    | inr (high, gt) ↦ elim (is_in row) as (λ b. is_in row ≡ b → Parted (upto end) (upto last) is_in row) [
      | true ↦ λ is. inr (inl (
        high,
        is,
        last_le last columns row.key next.ascend
            (key_among columns row (subst (λ l. Contains l row) next.exact (Contains-filter is_in rows row m is))),
      ))
      | false ↦ λ is. inr (inr (
        high,
        is,
        elim (upto end row) as (λ b. upto end row ≡ b → upto end row ≡ false) [
          | true ↦ λ le. absurd (let yes = in_upto row gt le in cc (is, yes))
          | false ↦ λ no. no
        ] refl,
      ))
    ] refl
  ]

  -- the rows of the next keys follow those of the keys so far
  pub rows_follow : (done new : List Row) → IsPermutation (rows_upto false last rows) done → RowsAscend done
      → AreListOf columns new
      → IsPermutation (rows_upto false end rows) (done ++ new) × RowsAscend (done ++ new)
  rows_follow done new same up listed = (
    IsPermutation-trans (filter (upto end) rows) (filter (upto last) rows ++ filter is_in rows) (done ++ new)
        (parted (upto end) (upto last) is_in rows each_parted)
        (IsPermutation-append (filter (upto last) rows) done (filter is_in rows) new same
        (subst (λ l. IsPermutation l new) (sym next.exact) (list-same columns new listed))),
    ascend-append done new up (list-ascend columns new next.ascend listed) (λ x y m n.
        let low : is_le (cmp x.key last) ≡ true =
        (Contains-from_filter (upto last) rows x
        (Contains-permutation done (filter (upto last) rows) x
        (IsPermutation-sym (filter (upto last) rows) done same) m)).1 in
        let there : Contains (filter is_in rows) y =
        subst (λ l. Contains l y) (sym next.exact)
        (Contains-permutation new (rows_in columns) y
        (IsPermutation-sym (rows_in columns) new (list-same columns new listed)) n) in
        let high : cmp y.key last ≡ Greater =
        part_gt (cmp y.key last) (is_upto (part_end last limit columns) y.key)
        (Contains-from_filter is_in rows y there).1 in
        key-less x y (le_lt_trans nat_list_cmp_total x.key last y.key low (turned_less y.key last high))),
  )

-- where no key is left, these are all rows
pub rows_all : (rows : List Row) (last : List ℕ) (limit : ℕ) (done : List Row) → nat_lt 0 limit ≡ true
    → AreNext rows last limit [] → IsPermutation (rows_upto false last rows) done → IsPermutation rows done
rows_all rows last limit done some next same =
    let low : Row → Bool = λ row. is_le (cmp row.key last) in
    let high : Row → Bool = λ row. is_gt (cmp row.key last) && true in
    let none : filter high rows ≡ [] =
    subst (λ b. filter (λ (row : Row). in_part last (cond b None (Some last)) row.key) rows ≡ []) some next.exact in
    IsPermutation-trans rows (filter low rows) done
    (subst (IsPermutation rows) (ap (λ (l : List Row). filter low rows ++ l) none ∙ append-nil (filter low rows))
    (IsPermutation-filter_both low high (λ row. gt_not_le (cmp row.key last)) rows))
    same

-- columns that have rows have bytes
pub some_bytes : (columns : List KeyCells) (new : List Row) → 0 < length columns
    → All (λ one. 0 < length one.cells) columns → AreListOf columns new → 0 < length (flat_map row_bytes new)
some_bytes [] new some each listed = absurd (omega (arith, some))
some_bytes (one ∷ columns) new some each ([], others, is, own, so) =
    let filled : 0 < length one.cells = All-head (λ (one : KeyCells). 0 < length one.cells) one columns each in
    let none = length_permutation (rows_in_one one) [] own.same in
    let long = length-map one.cells (row_of one.key) in
    absurd (omega (arith, filled, none, long))
some_bytes (one ∷ columns) new some each (row ∷ first, others, is, own, so) =
    subst (λ (rows : List Row). 0 < length (flat_map row_bytes rows)) (sym is) (omega arith)

last_nth : (key : List ℕ) (list : List KeyCells) (i : ℕ) (d : KeyCells) → length list ≡ suc i
    → (get_or list i d).key ≡ last_key key list
last_nth key [] i d long = absurd (omega (arith, long))
last_nth key (one ∷ []) zero d long = refl
last_nth key (one ∷ []) (suc i) d long = absurd (omega (arith, long))
last_nth key (one ∷ two ∷ list) zero d long = absurd (omega (arith, long))
last_nth key (one ∷ two ∷ list) (suc i) d long = last_nth one.key (two ∷ list) i d (omega (arith, long))

-- the last of some columns has the last key
pub last_at : (key : List ℕ) (list : List KeyCells) (one : KeyCells) → 0 < length list
    → one ≡ get_or list (length list - 1) one → one.key ≡ last_key key list
last_at key list one some at =
    ap (λ (one : KeyCells). one.key) at ∙ last_nth key list (length list - 1) one (omega (arith, some))

-- One more row: at the end of its key's column, or as a column of its own. The rows before and after it do not change,
-- and none after it has its key.
use Rattle.std.proofs.Common.{◌≡◌, ℕ, ◌<◌, Bool, List, [], ◌∷◌, IfSome, Result, Ok, Err, OnOk, OnErr, append_assoc}
use Rattle.std.proofs.Common.{◌++◌, Some, None, length, refl, sym, ap, ◌∙◌, subst, inl, inr, arith, All, true≢false}
use Rattle.std.proofs.Common.{Ordering, Less, Equal, Greater, nat_cmp}
use Rattle.std.specs.{Ordering.is_eq, Ordering.match_ordering, Map.lookup, Map.set_value, Map.keys_of}
use Rattle.std.specs.{Cmp.Lexicographic.slice_cmp, BTreeMap.insert_entry}
use Rattle.std.specs.List.{AllByRecursion, Sorted.IsPermutation, Sorted.IsStrictlySortedBy}
use Rattle.std.proofs.lemmas.Map.{Entries.All-lookup, Keys.sorted_head, Keys.sorted_tail}
use Rattle.std.proofs.lemmas.{Bool.cases_Bool, Bool.cond_both, Option.none-some, Option.same_Some}
use Rattle.std.proofs.lemmas.List.{map-append, Sorted.IsPermutation-append_right, Sorted.IsPermutation-append_comm}
use Rattle.std.proofs.lemmas.List.Elements.{All-from_recursion, recursion_from_All, Contains-append_cases}
use Rattle.std.proofs.lemmas.List.Elements.{Contains-append_left, Contains-append_right}
use Rattle.hlc_rows.specs.{declared.row.Row.Row, Rows.IsRowSet}
use Rattle.hlc_table_column.specs.{Cells.Cell, Rows.row_of, Rows.rows_of}
use Rattle.hlc_columns.specs.Table.{table_rows, HasNoVersion, InsertedLast}
use Rattle.hlc_columns.proofs.FoundLemmas.{test, same_key, none_here, none_past, no_row}
use Rattle.hlc_values.proofs.MemberLemmas.{Contains-rest, Contains-cons_cases}

more_before : (xs : List Row) (old : List Row) (row : Row) (new : List Row) → InsertedLast old row new
    → InsertedLast (xs ++ old) row (xs ++ new)
more_before xs old row new (front, back, was, is, others) = (
  xs ++ front,
  back,
  ap (λ ys. xs ++ ys) was ∙ sym (append_assoc xs front back),
  ap (λ ys. xs ++ ys) is ∙ sym (append_assoc xs front (row ∷ back)),
  others,
)

-- one more row at the end of a key's column
pub pushed : (key : List ℕ) (cell : Cell) (cells : List Cell) (es : List (List ℕ × List Cell))
    → IsStrictlySortedBy (λ a b. slice_cmp nat_cmp a b) (keys_of es) → lookup (test key) es ≡ Some cells
    → InsertedLast (table_rows es) (row_of key cell) (table_rows (set_value (test key) es (cells ++ cell ∷ [])))
pushed key cell cells [] up h = absurd (none-some cells h)
pushed key cell cells (e ∷ es) up h =
    elim (cases_Bool (test key e.0)) [
      | inl t ↦
          let same = same_key key e.0 t in
          let is : e.1 ≡ cells = same_Some e.1 cells (rw t at h) in
          rw t (
            rows_of e.0 e.1,
            table_rows es,
            refl,
            ap (λ (cs : List Cell). rows_of e.0 (cs ++ cell ∷ []) ++ table_rows es) (sym is)
                ∙ ap (λ rows. rows ++ table_rows es) (map-append (row_of e.0) e.1 (cell ∷ []))
                ∙ append_assoc (rows_of e.0 e.1) (row_of e.0 cell ∷ []) (table_rows es)
                ∙ ap (λ k. rows_of e.0 e.1 ++ row_of k cell ∷ table_rows es) (sym same),
            no_row key es (none_past key es
                (subst (λ k. AllByRecursion (λ y. slice_cmp nat_cmp k y ≡ Less) (keys_of es)) (sym same)
                (sorted_head (λ a b. slice_cmp nat_cmp a b) e.0 (keys_of es) up))),
          )
      | inr n ↦ rw n (more_before (rows_of e.0 e.1) (table_rows es) (row_of key cell)
          (table_rows (set_value (test key) es (cells ++ cell ∷ [])))
          (pushed key cell cells es (sorted_tail (λ a b. slice_cmp nat_cmp a b) e.0 (keys_of es) up) (rw n at h)))
    ]

-- a column of one row for a new key
pub added : (k : List ℕ) (cell : Cell) (es : List (List ℕ × List Cell)) → lookup (test k) es ≡ None
    → InsertedLast (table_rows es) (row_of k cell)
    (table_rows (insert_entry (λ a b. slice_cmp nat_cmp a b) es k (cell ∷ [])))
added k cell [] h = ([], [], refl, refl, no_row k [] h)
added k cell (e ∷ es) h =
    let p = none_here k e es h in
    elim (slice_cmp nat_cmp k e.0) as (λ o. slice_cmp nat_cmp k e.0 ≡ o
    → InsertedLast (table_rows (e ∷ es)) (row_of k cell)
    (table_rows (match_ordering o ((k, cell ∷ []) ∷ e ∷ es) ((e.0, cell ∷ []) ∷ es)
    (e ∷ insert_entry (λ a b. slice_cmp nat_cmp a b) es k (cell ∷ []))))) [
      | Less ↦ λ is. ([], table_rows (e ∷ es), refl, refl, no_row k (e ∷ es) h)
      | Equal ↦ λ is. absurd (true≢false (ap is_eq (sym is) ∙ p.0))
      | Greater ↦ λ is. more_before (rows_of e.0 e.1) (table_rows es) (row_of k cell)
          (table_rows (insert_entry (λ a b. slice_cmp nat_cmp a b) es k (cell ∷ []))) (added k cell es p.1)
    ] refl

-- writing back what was there
pub same_set : (key : List ℕ) (cells : List Cell) (es : List (List ℕ × List Cell)) → lookup (test key) es ≡ Some cells
    → set_value (test key) es cells ≡ es
same_set key cells [] h = absurd (none-some cells h)
same_set key cells (e ∷ es) h = elim (cases_Bool (test key e.0)) [
  | inl t ↦ rw t (ap (λ (cs : List Cell). (e.0, cs) ∷ es) (sym (same_Some e.1 cells (rw t at h))))
  | inr n ↦ rw n (ap (λ xs. e ∷ xs) (same_set key cells es (rw n at h)))
]

-- no column is empty
pub all_set : (is_key : List ℕ → Bool) (es : List (List ℕ × List Cell)) (cells : List Cell)
    → All (λ e. 0 < length e.1) es → 0 < length cells → All (λ e. 0 < length e.1) (set_value is_key es cells)
all_set is_key es cells h p = All-from_recursion (λ (e : List ℕ × List Cell). 0 < length e.1) (set_value is_key es
    cells)
    (go es (recursion_from_All (λ (e : List ℕ × List Cell). 0 < length e.1) es h))
  where
    go : (es : List (List ℕ × List Cell)) → AllByRecursion (λ e. 0 < length e.1) es
        → AllByRecursion (λ e. 0 < length e.1) (set_value is_key es cells)
    go [] h = tt
    go (e ∷ es) h =
        cond_both (is_key e.0) ((e.0, cells) ∷ es) (e ∷ set_value is_key es cells)
        (AllByRecursion (λ (e : List ℕ × List Cell). 0 < length e.1)) (λ t. (p, h.1)) (λ n. (h.0, go es h.1))

pub all_inserted : (cmp : List ℕ → List ℕ → Ordering) (es : List (List ℕ × List Cell)) (k : List ℕ) (cells : List Cell)
    → All (λ e. 0 < length e.1) es → 0 < length cells → All (λ e. 0 < length e.1) (insert_entry cmp es k cells)
all_inserted cmp es k cells h p = All-from_recursion (λ (e : List ℕ × List Cell). 0 < length e.1)
    (insert_entry cmp es k cells) (go es (recursion_from_All (λ (e : List ℕ × List Cell). 0 < length e.1) es h))
  where
    go : (es : List (List ℕ × List Cell)) → AllByRecursion (λ e. 0 < length e.1) es
        → AllByRecursion (λ e. 0 < length e.1) (insert_entry cmp es k cells)
    go [] h = (p, tt)
    go (e ∷ es) h = elim (cmp k e.0) as (λ o. AllByRecursion (λ e. 0 < length e.1)
        (match_ordering o ((k, cells) ∷ e ∷ es) ((e.0, cells) ∷ es) (e ∷ insert_entry cmp es k cells))) [
          | Less ↦ (p, h)
          | Equal ↦ (p, h.1)
          | Greater ↦ (h.0, go es h.1)
        ]

-- the same, for the result of a call
abbrev pub cell_of : Row → Cell
cell_of row = record { stamp = row.stamp; node = row.node; value = row.value }

module _ (row : Row) (es after : List (List ℕ × List Cell)) (old : List Row)
    (was : table_rows es ≡ old) where
  pub pushed_as : IsStrictlySortedBy (λ a b. slice_cmp nat_cmp a b) (keys_of es)
      → (key : List ℕ) (cells new : List Cell) → key ≡ row.key → Some cells ≡ lookup (test key) es
      → after ≡ set_value (test key) es new → new ≡ cells ++ cell_of row ∷ [] → InsertedLast old row (table_rows after)
  pushed_as up key cells new same found is more =
      rw (← was, is, more)
      (subst (λ k. InsertedLast (table_rows es) (row_of k (cell_of row))
      (table_rows (set_value (test key) es (cells ++ cell_of row ∷ [])))) same
      (pushed key (cell_of row) cells es up (sym found)))

  pub kept_as : (key : List ℕ) (cells new : List Cell) → Some cells ≡ lookup (test key) es
      → after ≡ set_value (test key) es new → new ≡ cells → table_rows after ≡ old
  kept_as key cells new found is stays =
      ap (table_rows) (is ∙ ap (set_value (test key) es) stays ∙ same_set key cells es (sym found)) ∙ was

  pub added_as : (key : List ℕ) (k : List ℕ) (cells : List Cell) → key ≡ row.key → k ≡ row.key
      → None ≡ lookup (test key) es → after ≡ insert_entry (λ a b. slice_cmp nat_cmp a b) es k cells
      → cells ≡ cell_of row ∷ [] → InsertedLast old row (table_rows after)
  added_as key k cells same names absent is one =
      subst (λ o. InsertedLast o row (table_rows after)) was
      (subst (λ n. InsertedLast (table_rows es) (row_of n (cell_of row)) (table_rows after)) names
      (subst (λ a. InsertedLast (table_rows es) (row_of k (cell_of row)) (table_rows a))
      (sym (is ∙ ap (insert_entry (λ a b. slice_cmp nat_cmp a b) es k) one))
      (added k (cell_of row) es (ap (λ n. lookup (test n) es) (names ∙ sym same) ∙ sym absent))))

pub found_some : (is_key : List ℕ → Bool) (es : List (List ℕ × List Cell)) (cells : List Cell)
    → All (λ e. 0 < length e.1) es → Some cells ≡ lookup is_key es → 0 < length cells
found_some is_key es cells h found =
    subst (λ o. IfSome o (λ cs. 0 < length cs)) (sym found) (All-lookup (λ cs. 0 < length cs) is_key es h)

-- one more row is among them, in some order
pub inserted-IsPermutation : (old : List Row) (row : Row) (new : List Row) → InsertedLast old row new
    → IsPermutation (old ++ row ∷ []) new
inserted-IsPermutation old row new (front, back, was, is, others) =
    rw (was, is, append_assoc front back (row ∷ []))
    (IsPermutation-append_right front (back ++ row ∷ []) (row ∷ back) (IsPermutation-append_comm back (row ∷ [])))

-- and they are still a row set
pub inserted-IsRowSet : (old : List Row) (row : Row) (new : List Row) → InsertedLast old row new → HasNoVersion old row
    → IsRowSet old → IsRowSet new
inserted-IsRowSet old row new (front, back, was, is, others) none apart =
    subst IsRowSet (sym is) (go front (subst (λ rows. HasNoVersion rows row) was none) (subst IsRowSet was apart))
  where
    go : (front : List Row) → HasNoVersion (front ++ back) row → IsRowSet (front ++ back)
        → IsRowSet (front ++ row ∷ back)
    go [] none apart = (none, apart)
    go (x ∷ xs) none apart = (
      λ other m same. elim (Contains-append_cases xs (row ∷ back) other m) [
        | inl left ↦ apart.0 other (Contains-append_left xs back other left) same
        | inr right ↦ elim (Contains-cons_cases row other back right) [
          | inl e ↦ none x (0, omega arith, refl) (record {
            key = ap (λ (r : Row). r.key) e ∙ sym same.key;
            stamp = ap (λ (r : Row). r.stamp) e ∙ sym same.stamp;
            node = ap (λ (r : Row). r.node) e ∙ sym same.node;
          })
          | inr r ↦ apart.0 other (Contains-append_right xs back other r) same
        ]
      ],
      go xs (λ other m same. none other (Contains-rest x other (xs ++ back) m) same) apart.1,
    )

-- whether it was added or not, the rows are a row set
pub either-IsRowSet : {R E : Type 0} (result : Result R E) (old : List Row) (row : Row) (new : List Row)
    → OnOk result (InsertedLast old row new) → OnErr result (new ≡ old) → HasNoVersion old row → IsRowSet old
    → IsRowSet new
either-IsRowSet (Ok r) old row new ok err none apart = inserted-IsRowSet old row new ok none apart
either-IsRowSet (Err e) old row new ok err none apart = subst IsRowSet (sym err) apart

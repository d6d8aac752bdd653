-- The look-up of a key: the rows of a key are those of its column, since the keys ascend, so that no other column has
-- the key.
use Rattle.std.proofs.Common.{◌≡◌, ◌≢◌, ℕ, ◌<◌, Bool, true, false, cond, List, [], ◌∷◌, ◌++◌, Option, Some, IsNone}
use Rattle.std.proofs.Common.{IfSome, option_and_then, append-nil, None, length, refl, ◌↔◌, sym, ap, ap₂, ◌∙◌, subst}
use Rattle.std.proofs.Common.{inl, inr, arith, Contains, true≢false, Less, nat_cmp}
use Rattle.std.specs.{Ordering.is_eq, Map.lookup, Map.keys_of, List.AllByRecursion, List.Sorted.IsStrictlySortedBy}
use Rattle.std.specs.Cmp.Lexicographic.{slice_cmp, texts_ties}
use Rattle.std.proofs.lemmas.{Map.Keys.sorted_head, Map.Keys.sorted_tail, Bool.cases_Bool, Bool.false_from_ne_true}
use Rattle.std.proofs.lemmas.{Option.none-some, Slice.Eq.bytes_eq-Decides}
use Rattle.std.proofs.lemmas.List.{length-map, Elements.filter-append, Elements.Contains-append_cases, Elements.All-map}
use Rattle.hlc_rows.specs.{declared.row.Row.Row, Rows.newest, Rows.answer}
use Rattle.hlc_rows.proofs.NewestLemmas.{newest_after_others, newest_before_others}
use Rattle.hlc_table_column.proofs.RowLemmas.{row_key}
use Rattle.hlc_table_column.specs.Cells.{Cell}
use Rattle.hlc_table_column.specs.Rows.{row_of, rows_of, rows_with, KeyCells, rows_in_one}
use Rattle.hlc_columns.specs.Table.{table_rows, keyed}
pub use Rattle.hlc_columns.specs.Table.{cells_in}
use Rattle.std.specs.Str.{bytes_eq}
use Rattle.hlc_columns.proofs.WalkLemmas.{filter_all, filter_none}
use Rattle.hlc_values.proofs.MemberLemmas.{Contains-none, Contains-cons_cases}

pub same_key : (a b : List ℕ) → is_eq (slice_cmp nat_cmp a b) ≡ true → a ≡ b
same_key a b e = (bytes_eq-Decides a b).0 (texts_ties a b ∙ e)

pub other_key : (a b : List ℕ) → is_eq (slice_cmp nat_cmp a b) ≡ false → a ≢ b
other_key a b e same = true≢false (sym ((bytes_eq-Decides a b).1 same) ∙ texts_ties a b ∙ e)

-- the test for a key
abbrev pub test : List ℕ → List ℕ → Bool
test key k = is_eq (slice_cmp nat_cmp key k)

-- all of a column's rows have its key, and none has another
own_rows : (key : List ℕ) (cells : List Cell) → rows_with key (rows_of key cells) ≡ rows_of key cells
own_rows key cells =
    filter_all (λ (row : Row). bytes_eq row.key key) (rows_of key cells)
    (All-map (λ (row : Row). bytes_eq row.key key ≡ true) (row_of key) cells
    (λ i d lt. (bytes_eq-Decides key key).1 refl))

other_rows : (k key : List ℕ) (cells : List Cell) → key ≢ k → rows_with key (rows_of k cells) ≡ []
other_rows k key cells apart =
    filter_none (λ (row : Row). bytes_eq row.key key) (rows_of k cells)
    (All-map (λ (row : Row). bytes_eq row.key key ≡ false) (row_of k) cells
    (λ i d lt. false_from_ne_true (bytes_eq k key) (λ t. apart (sym ((bytes_eq-Decides k key).0 t)))))

pub none_here : (key : List ℕ) (e : List ℕ × List Cell) (es : List (List ℕ × List Cell))
    → lookup (test key) (e ∷ es) ≡ None → (test key e.0 ≡ false) × (lookup (test key) es ≡ None)
none_here key e es h = elim (cases_Bool (test key e.0)) [
  | inl t ↦ absurd (none-some e.1 (sym (rw t at h)))
  | inr n ↦ (n, rw n at h)
]

pub none_past : (key : List ℕ) (es : List (List ℕ × List Cell))
    → AllByRecursion (λ y. slice_cmp nat_cmp key y ≡ Less) (keys_of es) → lookup (test key) es ≡ None
none_past key [] h = refl
none_past key (e ∷ es) h = ap (λ o. cond (is_eq o) (Some e.1) (lookup (test key) es)) h.0 ∙ none_past key es h.1

-- a key that has no column has no row
pub no_row : (key : List ℕ) (es : List (List ℕ × List Cell)) → lookup (test key) es ≡ None → (row : Row)
    → Contains (table_rows es) row → row.key ≢ key
no_row key [] h row m same = Contains-none row m
no_row key (e ∷ es) h row m same =
    let p = none_here key e es h in
    elim (Contains-append_cases (rows_of e.0 e.1) (table_rows es) row m) [
      | inl here ↦ other_key key e.0 p.0 (sym same ∙ row_key e.0 e.1 row here)
      | inr there ↦ no_row key es p.1 row there same
    ]

-- the newest row of a key in the table is the newest of its column
pub newest_in_table : (key : List ℕ) (s : ℕ) (es : List (List ℕ × List Cell))
    → IsStrictlySortedBy (λ a b. slice_cmp nat_cmp a b) (keys_of es)
    → newest (table_rows es) key s ≡ newest (rows_of key (cells_in (lookup (test key) es))) key s
newest_in_table key s [] up = refl
newest_in_table key s (e ∷ es) up =
    elim (cases_Bool (test key e.0)) [
      | inl t ↦
          let same = same_key key e.0 t in
          let past = none_past key es
          (subst (λ k. AllByRecursion (λ y. slice_cmp nat_cmp k y ≡ Less) (keys_of es)) (sym same)
          (sorted_head (λ a b. slice_cmp nat_cmp a b) e.0 (keys_of es) up)) in
          rw t (newest_before_others (rows_of e.0 e.1) (table_rows es) key s (no_row key es past)
          ∙ ap (λ k. newest (rows_of k e.1) key s) (sym same))
      | inr n ↦
          rw n (newest_after_others (rows_of e.0 e.1) (table_rows es) key s
          (λ row m same. other_key key e.0 n (sym same ∙ row_key e.0 e.1 row m))
          ∙ newest_in_table key s es (sorted_tail (λ a b. slice_cmp nat_cmp a b) e.0 (keys_of es) up))
    ]

pub answer_in_table : (key : List ℕ) (s : ℕ) (es : List (List ℕ × List Cell))
    → IsStrictlySortedBy (λ a b. slice_cmp nat_cmp a b) (keys_of es)
    → answer (table_rows es) key s ≡ answer (rows_of key (cells_in (lookup (test key) es))) key s
answer_in_table key s es up = ap (option_and_then (λ (r : Row). r.value)) (newest_in_table key s es up)

-- the key of each other column comes later
column_later : (k : List ℕ) (es : List (List ℕ × List Cell)) (one : KeyCells)
    → AllByRecursion (λ y. slice_cmp nat_cmp k y ≡ Less) (keys_of es) → Contains (keyed es) one
    → slice_cmp nat_cmp k one.key ≡ Less
column_later k [] one h i = absurd (Contains-none one i)
column_later k (e ∷ es) one h i =
    elim (Contains-cons_cases (record { key = e.0; cells = e.1 }) one (keyed es) i) [
      | inl is ↦ subst (λ (x : KeyCells). slice_cmp nat_cmp k x.key ≡ Less) is h.0
      | inr there ↦ column_later k es one h.1 there
    ]

-- so the newest row of each column's key is that of the column
pub newest_alone : (es : List (List ℕ × List Cell))
    → IsStrictlySortedBy (λ a b. slice_cmp nat_cmp a b) (keys_of es) → (one : KeyCells)
    → Contains (keyed es) one → (bound : ℕ)
    → newest (table_rows es) one.key bound ≡ newest (rows_in_one one) one.key bound
newest_alone [] up one i bound = absurd (Contains-none one i)
newest_alone (e ∷ es) up one i bound =
    let later = sorted_head (λ a b. slice_cmp nat_cmp a b) e.0 (keys_of es) up in
    elim (Contains-cons_cases (record { key = e.0; cells = e.1 }) one (keyed es) i) [
      | inl is ↦
          subst (λ (x : KeyCells). newest (table_rows (e ∷ es)) x.key bound ≡ newest (rows_in_one x) x.key bound) is
          (newest_before_others (rows_of e.0 e.1) (table_rows es) e.0 bound
          (no_row e.0 es (none_past e.0 es later)))
      | inr there ↦
          newest_after_others (rows_of e.0 e.1) (table_rows es) one.key bound
          (λ row m same. other_key e.0 one.key (ap is_eq (column_later e.0 es one later there))
          (sym (row_key e.0 e.1 row m) ∙ same))
          ∙ newest_alone es (sorted_tail (λ a b. slice_cmp nat_cmp a b) e.0 (keys_of es) up) one there bound
    ]

pub absent_rows : (key : List ℕ) (es : List (List ℕ × List Cell)) → lookup (test key) es ≡ None
    → rows_with key (table_rows es) ≡ []
absent_rows key [] h = refl
absent_rows key (e ∷ es) h =
    let p = none_here key e es h in
    filter-append (λ (row : Row). bytes_eq row.key key) (rows_of e.0 e.1) (table_rows es)
    ∙ ap₂ (λ xs ys. xs ++ ys) (other_rows e.0 key e.1 (other_key key e.0 p.0)) (absent_rows key es p.1)

-- the rows of a key are those of its column
pub rows_in_table : (key : List ℕ) (es : List (List ℕ × List Cell))
    → IsStrictlySortedBy (λ a b. slice_cmp nat_cmp a b) (keys_of es)
    → rows_with key (table_rows es) ≡ rows_of key (cells_in (lookup (test key) es))
rows_in_table key [] up = refl
rows_in_table key (e ∷ es) up =
    filter-append (λ (row : Row). bytes_eq row.key key) (rows_of e.0 e.1) (table_rows es)
    ∙ elim (cases_Bool (test key e.0)) [
      | inl t ↦
          let same = same_key key e.0 t in
          let past = none_past key es
          (subst (λ k. AllByRecursion (λ y. slice_cmp nat_cmp k y ≡ Less) (keys_of es)) (sym same)
          (sorted_head (λ a b. slice_cmp nat_cmp a b) e.0 (keys_of es) up)) in
          rw t (ap₂ (λ xs ys. xs ++ ys) (ap (λ k. rows_with key (rows_of k e.1)) (sym same) ∙ own_rows key e.1)
          (absent_rows key es past) ∙ append-nil (rows_of key e.1))
      | inr n ↦
          rw n (ap₂ (λ xs ys. xs ++ ys) (other_rows e.0 key e.1 (other_key key e.0 n))
          (rows_in_table key es (sorted_tail (λ a b. slice_cmp nat_cmp a b) e.0 (keys_of es) up)))
    ]

pub answer_nothing : (key : List ℕ) (s : ℕ) → answer [] key s ≡ None
unfolding newest
answer_nothing key s = refl

-- what a look-up implies for the key's rows
pub found_absent : (o : Option (List Cell)) (key : List ℕ) (rows : List Row)
    → rows ≡ rows_of key (cells_in o) → IfSome o (λ cells. 0 < length cells) → IsNone o ↔ (rows ≡ [])
found_absent None key rows e some = (λ none. e, λ empty. refl)
found_absent (Some cells) key rows e some = (
  λ none. absurd (true≢false none),
  λ empty.
      absurd (let long = ap length (sym empty ∙ e) ∙ length-map cells (row_of key) in omega (arith, some, long)),
)

pub rows_found : (o : Option (List Cell)) (key : List ℕ) (rows : List Row)
    → IfSome o (λ cells. rows_of key cells ≡ rows_with key rows) → IsNone o ↔ (rows_with key rows ≡ [])
    → rows_of key (cells_in o) ≡ rows_with key rows
rows_found None key rows some none = sym (none.0 refl)
rows_found (Some cells) key rows some none = some

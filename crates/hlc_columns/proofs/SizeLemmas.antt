-- The sizes of columns: of some and of others after them, of the first of them, with one more row, with one more key.
use Rattle.std.proofs.Common.{ap₂, ◌≡◌, ℕ, suc, ◌+◌, ◌<◌, ◌≤◌, Bool, true, false, List, [], ◌∷◌, sum_by, length-append}
use Rattle.std.proofs.Common.{◌++◌, Some, None, refl, sym, ap, ◌∙◌, inl, inr, arith, length, subst, true≢false, Less}
use Rattle.std.proofs.Common.{Equal, Greater, nat_cmp, Contains}
use Rattle.std.specs.{Ordering.is_eq, Ordering.match_ordering, Cmp.Lexicographic.slice_cmp}
use Rattle.std.specs.{Map.lookup, Map.set_value, BTreeMap.insert_entry}
use Rattle.std.proofs.lemmas.{Bool.cases_Bool, Bool.cond_both, Option.none-some, Option.same_Some}
use Rattle.std.proofs.lemmas.List.{length-map, Sums.sum_by-cons, Sums.sum_by-append, Sums.sum_by_push}
use Rattle.hlc_rows.specs.declared.row.Row.{Row}
use Rattle.hlc_table_index.specs.Entries.{keys_in}
use Rattle.hlc_table_column.specs.{Cells.Cell, Cells.value_bytes, Cells.cell_bytes, Rows.row_of, Rows.rows_of}
use Rattle.hlc_columns.specs.Table.{table_rows}
use Rattle.hlc_columns.specs.Sizes.{IsPart, sizes_of, with_row, with_key, Fit, row_bytes, AreSizes, Sizes}
use Rattle.hlc_columns.proofs.{WalkLemmas.Entry, Keys.name_of_row, Keys.row_of_name}
use Rattle.hlc_columns.proofs.FoundLemmas.{test, same_key, none_here}
use Rattle.std.specs.List.{AllByRecursion, items_where_true, Sorted.IsStrictlySortedBy}

-- sizes with the same numbers
pub equal : (a b : Sizes) → a.rows ≡ b.rows → a.keys ≡ b.keys → a.key_bytes ≡ b.key_bytes
    → a.value_bytes ≡ b.value_bytes → a ≡ b
equal a b rows keys key_bytes value_bytes =
    ap (λ n. record a { rows = n }) rows ∙ ap (λ n. record a { rows = b.rows; keys = n }) keys
    ∙ ap (λ n. record a { rows = b.rows; keys = b.keys; key_bytes = n }) key_bytes
    ∙ ap (λ n. record b { value_bytes = n }) value_bytes

-- the rows of some columns, their bytes, and the bytes of their keys
pub rows_counted : (es : List Entry) → sum_by (λ e. length e.1) es ≡ length (table_rows es)
rows_counted [] = refl
rows_counted (e ∷ es) =
    let first = sum_by-cons (λ (e : Entry). length e.1) e es in
    omega (arith, rows_counted es, length-map e.1 (row_of e.0), length-append (rows_of e.0 e.1) (table_rows es))

column_bytes : (key : List ℕ) (cells : List Cell) → sum_by cell_bytes cells ≡ sum_by row_bytes (rows_of key cells)
column_bytes key [] = refl
column_bytes key (cell ∷ cells) =
    sum_by-cons cell_bytes cell cells ∙ ap (λ m. cell_bytes cell + m) (column_bytes key cells)
    ∙ sym (sum_by-cons row_bytes (row_of key cell) (rows_of key cells))

pub bytes_counted : (es : List Entry) → sum_by (λ e. sum_by cell_bytes e.1) es ≡ sum_by row_bytes (table_rows es)
bytes_counted [] = refl
bytes_counted (e ∷ es) =
    let first = sum_by-cons (λ (e : Entry). sum_by cell_bytes e.1) e es in
    omega (arith, bytes_counted es, column_bytes e.0 e.1, sum_by-append row_bytes (rows_of e.0 e.1) (table_rows es))

pub names_counted : (es : List Entry) → sum_by (λ e. length e.0) es ≡ sum_by length (keys_in es)
names_counted [] = refl
names_counted (e ∷ es) =
    sum_by-cons (λ (e : Entry). length e.0) e es ∙ ap (λ m. length e.0 + m) (names_counted es)
    ∙ sym (sum_by-cons length e.0 (keys_in es))

-- a number of each column, when one column changes
pub sum_set : (f : Entry → ℕ) (key : List ℕ) (cells new : List Cell) (es : List Entry)
    → lookup (test key) es ≡ Some cells
    → sum_by f (set_value (test key) es new) + f (key, cells) ≡ sum_by f es + f (key, new)
sum_set f key cells new [] h = absurd (none-some cells h)
sum_set f key cells new (e ∷ es) h =
    let own = sum_by-cons f e es in
    elim (cases_Bool (test key e.0)) [
      | inl t ↦
          let name = same_key key e.0 t in
          let is : e.1 ≡ cells = same_Some e.1 cells (rw t at h) in
          let before : f e ≡ f (key, cells) = ap₂ (λ k cs. f (k, cs)) (sym name) is in
          let after : f (e.0, new) ≡ f (key, new) = ap (λ k. f (k, new)) (sym name) in
          rw t (omega (arith, sum_by-cons f (e.0, new) es))
      | inr n ↦
          let rest = sum_set f key cells new es (rw n at h) in
          rw n (omega (arith, sum_by-cons f e (set_value (test key) es new)))
    ]

pub length_set : (key : List ℕ) (new : List Cell) (es : List Entry) → length (set_value (test key) es new) ≡ length es
length_set key new [] = refl
length_set key new (e ∷ es) =
    cond_both (test key e.0) ((e.0, new) ∷ es) (e ∷ set_value (test key) es new) (λ l. length l ≡ length (e ∷ es))
    (λ t. refl) (λ n. ap suc (length_set key new es))

-- a number of each column, when a column is added
pub sum_added : (f : Entry → ℕ) (k : List ℕ) (cells : List Cell) (es : List Entry) → lookup (test k) es ≡ None
    → sum_by f (insert_entry (λ a b. slice_cmp nat_cmp a b) es k cells) ≡ sum_by f es + f (k, cells)
sum_added f k cells [] h = let e = sum_by-cons f (k, cells) [] in omega (arith, e)
sum_added f k cells (e ∷ es) h =
    let p = none_here k e es h in
    let own = sum_by-cons f e es in
    elim (slice_cmp nat_cmp k e.0) as (λ o. slice_cmp nat_cmp k e.0 ≡ o
    → sum_by f (match_ordering o ((k, cells) ∷ e ∷ es) ((e.0, cells) ∷ es)
    (e ∷ insert_entry (λ a b. slice_cmp nat_cmp a b) es k cells)) ≡ sum_by f (e ∷ es) + f (k, cells)) [
      | Less ↦ λ is. let first = sum_by-cons f (k, cells) (e ∷ es) in omega (arith, first)
      | Equal ↦ λ is. absurd (true≢false (ap is_eq (sym is) ∙ p.0))
      | Greater ↦ λ is.
          let first = sum_by-cons f e (insert_entry (λ a b. slice_cmp nat_cmp a b) es k cells) in
          omega (arith, sum_added f k cells es p.1)
    ] refl

pub length_added : (k : List ℕ) (cells : List Cell) (es : List Entry) → lookup (test k) es ≡ None
    → length (insert_entry (λ a b. slice_cmp nat_cmp a b) es k cells) ≡ length es + 1
length_added k cells [] h = refl
length_added k cells (e ∷ es) h =
    let p = none_here k e es h in
    elim (slice_cmp nat_cmp k e.0) as (λ o. slice_cmp nat_cmp k e.0 ≡ o
    → length (match_ordering o ((k, cells) ∷ e ∷ es) ((e.0, cells) ∷ es)
    (e ∷ insert_entry (λ a b. slice_cmp nat_cmp a b) es k cells)) ≡ length (e ∷ es) + 1) [
      | Less ↦ λ is. omega arith
      | Equal ↦ λ is. absurd (true≢false (ap is_eq (sym is) ∙ p.0))
      | Greater ↦ λ is. let rest = length_added k cells es p.1 in omega (arith, rest)
    ] refl

-- one more row of a key that has some
pub sizes_pushed : (key : List ℕ) (cell : Cell) (cells new : List Cell) (es after : List Entry)
    → lookup (test key) es ≡ Some cells → new ≡ cells ++ cell ∷ [] → after ≡ set_value (test key) es new
    → sizes_of after ≡ with_row (sizes_of es) (cell_bytes cell)
sizes_pushed key cell cells new es after found more is =
    let rows = sum_set (λ (e : Entry). length e.1) key cells new es found in
    let names = sum_set (λ (e : Entry). length e.0) key cells new es found in
    let values = sum_set (λ (e : Entry). sum_by cell_bytes e.1) key cells new es found in
    let long = ap length more ∙ length-append cells (cell ∷ []) in
    let bytes = ap (sum_by cell_bytes) more ∙ sum_by_push cell_bytes cells cell in
    ap sizes_of is ∙ equal (sizes_of (set_value (test key) es new)) (with_row (sizes_of es) (cell_bytes cell))
    (omega (arith, rows, long)) (length_set key new es) (omega (arith, names)) (omega (arith, values, bytes))

-- one row of a new key
pub sizes_added : (k : List ℕ) (cell : Cell) (new : List Cell) (es after : List Entry)
    → lookup (test k) es ≡ None → new ≡ cell ∷ [] → after ≡ insert_entry (λ a b. slice_cmp nat_cmp a b) es k new
    → sizes_of after ≡ with_key (with_row (sizes_of es) (cell_bytes cell)) (length k)
sizes_added k cell new es after absent one is =
    let rows = sum_added (λ (e : Entry). length e.1) k new es absent in
    let names = sum_added (λ (e : Entry). length e.0) k new es absent in
    let values = sum_added (λ (e : Entry). sum_by cell_bytes e.1) k new es absent in
    let long = ap length one in
    let bytes = ap (sum_by cell_bytes) one ∙ sum_by-cons cell_bytes cell [] in
    ap sizes_of is ∙ equal (sizes_of (insert_entry (λ a b. slice_cmp nat_cmp a b) es k new))
    (with_key (with_row (sizes_of es) (cell_bytes cell)) (length k))
    (omega (arith, rows, long)) (length_added k new es absent) (omega (arith, names)) (omega (arith, values, bytes))

-- what fits and is no greater fits
pub fit_less : (a b : Sizes) → a.rows ≤ b.rows → a.keys ≤ b.keys → a.key_bytes ≤ b.key_bytes
    → a.value_bytes ≤ b.value_bytes → Fit b → Fit a
fit_less a b rows keys names values fit =
    record { rows = omega arith; keys = omega arith; key_bytes = omega arith; value_bytes = omega arith }

-- the sizes of a table
pub are_sizes : (es : List Entry) (rows : List Row) → AllByRecursion (λ e. 0 < length e.1) es
    → IsStrictlySortedBy (λ a b. slice_cmp nat_cmp a b) (keys_in es) → table_rows es ≡ rows
    → AreSizes rows (sizes_of es)
are_sizes es rows filled up is = record {
  keys = keys_in es;
  are = record {
    ascend = up;
    exact = λ key. (
      λ i.
          let row = row_of_name es key filled i in
          (row.0, subst (λ (rows : List Row). Contains rows row.0) is row.1, row.2),
      λ (row, i, own).
          subst (Contains (keys_in es)) own
          (name_of_row es row (subst (λ (rows : List Row). Contains rows row) (sym is) i)),
    );
  };
  row_count = rows_counted es ∙ ap length is;
  key_count = sym (length-map es (λ (e : Entry). e.0));
  key_bytes = names_counted es;
  value_bytes = bytes_counted es ∙ ap (sum_by row_bytes) is;
}

-- a number of each item: of those that are kept, and of those that pass
pub sum_kept : {X : Type 0} (f : X → ℕ) (flags : List Bool) (xs : List X)
    → sum_by f (items_where_true flags xs) ≤ sum_by f xs
sum_kept f [] xs = omega arith
sum_kept f (b ∷ flags) [] = omega arith
sum_kept f (true ∷ flags) (x ∷ xs) =
    omega (arith, sum_by-cons f x xs, sum_by-cons f x (items_where_true flags xs), sum_kept f flags xs)
sum_kept f (false ∷ flags) (x ∷ xs) = omega (arith, sum_by-cons f x xs, sum_kept f flags xs)

-- no more rows are kept than there were
pub length_kept : (flags : List Bool) (cells : List Cell) → length (items_where_true flags cells) ≤ length cells
length_kept [] cells = omega arith
length_kept (b ∷ flags) [] = omega arith
length_kept (true ∷ flags) (c ∷ cells) = omega (arith, length_kept flags cells)
length_kept (false ∷ flags) (c ∷ cells) = omega (arith, length_kept flags cells)

-- so fewer rows of a column are a part of them
pub less_one : (key : List ℕ) (flags : List Bool) (cells : List Cell)
    → IsPart (sizes_of ((key, items_where_true flags cells) ∷ [])) (sizes_of ((key, cells) ∷ []))
less_one key flags cells = record {
  rows = single (λ (e : Entry). length e.1) (length_kept flags cells);
  keys = omega arith;
  key_bytes = single (λ (e : Entry). length e.0) (omega arith);
  value_bytes = single (λ (e : Entry). sum_by cell_bytes e.1) (sum_kept cell_bytes flags cells);
}
  where
    single : (f : Entry → ℕ) → f (key, items_where_true flags cells) ≤ f (key, cells)
        → sum_by f ((key, items_where_true flags cells) ∷ []) ≤ sum_by f ((key, cells) ∷ [])
    single f le =
        omega (arith, sum_by-cons f (key, items_where_true flags cells) [], sum_by-cons f (key, cells) [])

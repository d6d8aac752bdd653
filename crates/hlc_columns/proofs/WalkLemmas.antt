-- Walks over leaves and their entries: what is listed or counted of one more.
use Rattle.std.proofs.Common.{true, false, suc, inl, inr, All, ap₂, ◌≡◌, ◌≤◌, ◌+◌, ◌++◌, ◌∷◌, ◌∙◌, ℕ, List, [], Bool}
use Rattle.std.proofs.Common.{length, arith, append_assoc, length-append, ap, sym, refl, map, filter, leb, Bor}
use Rattle.std.proofs.lemmas.List.{map_push, Concat.flat_map-append, Elements.filter-append, Elements.All-map}
use Rattle.std.proofs.lemmas.{List.Sums.length-filter, List.Sums.count_by-le-length, Bool.cases_Bool}
use Rattle.hlc_rows.specs.declared.row.Row.{Row}
use Rattle.hlc_table_index.specs.Entries.{entries_in, entries_from, keys_in}
use Rattle.hlc_table_column.specs.{Cells.Cell, Rows.KeyCells, Rows.row_of, Rows.rows_of}
use Rattle.hlc_columns.specs.Table.{table_rows}

abbrev pub Entry : Type 0
Entry = List ℕ × List Cell

abbrev pub one_of : Entry → KeyCells
one_of e = record { key = e.0; cells = e.1 }

-- one more key is listed
pub name_next : (list more : List (Bor (List ℕ))) (one : Bor (List ℕ)) (left after : List Entry) (e : Entry)
    (all : List (List ℕ)) → left ≡ e ∷ after → more ≡ list ++ one ∷ [] → one.now ≡ e.0
    → map (λ key. key.now) list ++ keys_in left ≡ all → map (λ key. key.now) more ++ keys_in after ≡ all
name_next list more one left after e all is grown same inv =
    let listed = map (λ (key : Bor (List ℕ)). key.now) list in
    ap (λ m. map (λ (key : Bor (List ℕ)). key.now) m ++ keys_in after) grown
    ∙ ap (λ m. m ++ keys_in after) (map_push (λ (key : Bor (List ℕ)). key.now) list one)
    ∙ append_assoc listed (one.now ∷ []) (keys_in after) ∙ ap (λ key. listed ++ key ∷ keys_in after) same
    ∙ ap (λ es. listed ++ keys_in es) (sym is) ∙ inv

-- the rows of some entries, and of others after them
pub rows_both : (xs ys : List Entry) → table_rows (xs ++ ys) ≡ table_rows xs ++ table_rows ys
rows_both xs ys = flat_map-append (λ (e : Entry). rows_of e.0 e.1) xs ys

-- items that a test selects
pub filter_all : {X : Type 0} (p : X → Bool) (xs : List X) → All (λ x. p x ≡ true) xs → filter p xs ≡ xs
filter_all p [] all = refl
filter_all p (x ∷ xs) all =
    rw (all 0 x (omega arith)) (ap (λ l. x ∷ l) (filter_all p xs (λ i d lt. all (suc i) d (omega arith))))

pub filter_none : {X : Type 0} (p : X → Bool) (xs : List X) → All (λ x. p x ≡ false) xs → filter p xs ≡ []
filter_none p [] none = refl
filter_none p (x ∷ xs) none =
    rw (none 0 x (omega arith)) (filter_none p xs (λ i d lt. none (suc i) d (omega arith)))

-- the rows with keys of a kind are those of the columns with such keys
pub rows_filtered : (is_of : List ℕ → Bool) (es : List Entry)
    → filter (λ row. is_of row.key) (table_rows es) ≡ table_rows (filter (λ e. is_of e.0) es)
rows_filtered is_of [] = refl
rows_filtered is_of (e ∷ es) =
    let p : Row → Bool = λ row. is_of row.key in
    filter-append p (rows_of e.0 e.1) (table_rows es) ∙ elim (cases_Bool (is_of e.0)) [
      | inl t ↦ rw t (ap₂ (λ a b. a ++ b) (filter_all p (rows_of e.0 e.1)
          (All-map (λ (row : Row). is_of row.key ≡ true) (row_of e.0) e.1 (λ i d lt. t))) (rows_filtered is_of es))
      | inr f ↦ rw f (ap₂ (λ a b. a ++ b) (filter_none p (rows_of e.0 e.1)
          (All-map (λ (row : Row). is_of row.key ≡ false) (row_of e.0) e.1 (λ i d lt. f))) (rows_filtered is_of es))
    ]

module _ (bound : ℕ) where
  abbrev pub within : Row → Bool
  within row = leb row.stamp bound

  pub few : (rows : List Row) → length (filter within rows) ≤ length rows
  few rows = omega (arith, length-filter within rows, count_by-le-length within rows)

  -- the rows of one more entry are counted
  pub count_next : (left after : List Entry) (e : Entry) (total n all : ℕ) → left ≡ e ∷ after
      → total + length (filter within (table_rows left)) ≡ all → n ≡ length (filter within (rows_of e.0 e.1))
      → total + n + length (filter within (table_rows after)) ≡ all
  count_next left after e total n all is inv own =
      let next = ap (λ es. length (filter within (table_rows es))) is in
      let both = ap length (filter-append within (rows_of e.0 e.1) (table_rows after)) in
      omega (arith, length-append (filter within (rows_of e.0 e.1)) (filter within (table_rows after)))

-- from the first slot on there are all entries
pub all_from_first : (ls : List (List Entry)) → entries_from ls 0 0 ≡ entries_in ls
all_from_first [] = refl
all_from_first (leaf ∷ ls) = refl

-- Walks over the columns: they are listed, named and counted one after another.
use Rattle.std.proofs.Common.{subst, ◌≡◌, ℕ, ◌<◌, List, [], ◌∷◌, ◌++◌, length, refl, sym, ap, ◌∙◌, inl, inr, arith}
use Rattle.std.proofs.Common.{Contains, map, nat_cmp, zero, suc, Some, slice_get, get_or}
use Rattle.std.specs.{Cmp.Lexicographic.slice_cmp, Map.keys_of, List.AllByRecursion, List.Sorted.IsStrictlySortedBy}
use Rattle.hlc_values.proofs.MemberLemmas.{Contains-rest, Contains-cons_cases}
use Rattle.hlc_rows.specs.declared.row.Row.{Row}
use Rattle.hlc_table_column.specs.Cells.{Cell}
use Rattle.hlc_table_column.specs.Rows.{KeyCells, row_of, rows_of, rows_in, keys_in, KeysAscend}
use Rattle.std.proofs.lemmas.List.Elements.{Contains-append_cases, Contains-append_left, Contains-append_right}
use Rattle.std.proofs.lemmas.List.{map-append}
use Rattle.hlc_table_index.specs.Entries.{entries_in}
use Rattle.hlc_columns.specs.Table.{table_rows, keyed, columns_in}
use Rattle.hlc_table_column.proofs.RowLemmas.{row_key}

pub rows_keyed : (es : List (List ℕ × List Cell)) → rows_in (keyed es) ≡ table_rows es
rows_keyed [] = refl
rows_keyed (e ∷ es) = ap (λ rows. rows_of e.0 e.1 ++ rows) (rows_keyed es)

names_keyed : (es : List (List ℕ × List Cell)) → keys_in (keyed es) ≡ keys_of es
names_keyed [] = refl
names_keyed (e ∷ es) = ap (λ keys. e.0 ∷ keys) (names_keyed es)

pub keys_keyed : (es : List (List ℕ × List Cell))
    → IsStrictlySortedBy (λ a b. slice_cmp nat_cmp a b) (keys_of es) → KeysAscend (keyed es)
keys_keyed es = subst (IsStrictlySortedBy (λ a b. slice_cmp nat_cmp a b)) (sym (names_keyed es))

-- the columns of the leaves are those of all entries
pub leaves_keyed : (leaves : List (List (List ℕ × List Cell)))
    → columns_in (map keyed leaves) ≡ keyed (entries_in leaves)
leaves_keyed [] = refl
leaves_keyed (leaf ∷ leaves) =
    ap (λ columns. keyed leaf ++ columns) (leaves_keyed leaves)
    ∙ sym (map-append (λ (e : List ℕ × List Cell). record { key = e.0; cells = e.1 }) leaf (entries_in leaves))

-- an entry with its key
pub keyed_at : (es : List (List ℕ × List Cell)) (n : ℕ) (e : List ℕ × List Cell) (one : KeyCells) → n < length es
    → e ≡ get_or es n e → one ≡ record { key = e.0; cells = e.1 } → slice_get (keyed es) n ≡ Some one
keyed_at [] n e one lt read is = absurd (omega (arith, lt))
keyed_at (d ∷ es) zero e one lt read is =
    ap (λ (e : List ℕ × List Cell). Some (record { key = e.0; cells = e.1 })) (sym read) ∙ ap Some (sym is)
keyed_at (d ∷ es) (suc n) e one lt read is = keyed_at es n e one (omega (arith, lt)) read is

-- the keys of the entries
abbrev pub names : List (List ℕ × List Cell) → List (List ℕ)
names es = map (λ e. e.0) es

-- each key that has rows is named, and no other
pub name_of_row : (es : List (List ℕ × List Cell)) (row : Row) → Contains (table_rows es) row
    → Contains (names es) row.key
name_of_row [] row (k, lt, e) = absurd (omega (arith, lt))
name_of_row (e ∷ es) row i = elim (Contains-append_cases (rows_of e.0 e.1) (table_rows es) row i) [
  | inl here ↦ (0, omega arith, sym (row_key e.0 e.1 row here))
  | inr there ↦ Contains-rest e.0 row.key (names es) (name_of_row es row there)
]

pub row_of_name : (es : List (List ℕ × List Cell)) (key : List ℕ)
    → AllByRecursion (λ e. 0 < length e.1) es → Contains (names es) key
    → (row : Row) × Contains (table_rows es) row × (row.key ≡ key)
row_of_name [] key some (k, lt, e) = absurd (omega (arith, lt))
row_of_name (e ∷ es) key some i = elim (Contains-cons_cases e.0 key (names es) i) [
  | inl is ↦ let row = first e.1 some.0 in (
    row.0,
    Contains-append_left (rows_of e.0 e.1) (table_rows es) row.0 row.1,
    row_key e.0 e.1 row.0 row.1 ∙ is,
  )
  | inr r ↦ let row = row_of_name es key some.1 r in
      (row.0, Contains-append_right (rows_of e.0 e.1) (table_rows es) row.0 row.1, row.2)
]
  where
    first : (cells : List Cell) → 0 < length cells → (row : Row) × Contains (rows_of e.0 cells) row
    first [] some = absurd (omega (arith, some))
    first (c ∷ cs) some = (row_of e.0 c, (0, omega arith, refl))

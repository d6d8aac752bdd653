-- Rows at or below a stamp, and rows above it, are counted separately. A row set has no more rows above a stamp than
-- any rows that include them all.
use Rattle.std.proofs.Common.{Contains, sum_by, length, refl, sym, ap, ◌∙◌, inl, inr, arith, cond, true, false, ltb}
use Rattle.std.proofs.Common.{filter, ◌≡◌, ℕ, ◌≤◌, List, [], ◌∷◌, ◌<◌, ◌+◌, ◌++◌}
use Rattle.std.proofs.lemmas.Bool.{cases_lt, ltb-true, lt-leb, lt-ltb, le-leb, le-ltb}
use Rattle.hlc_values.proofs.MemberLemmas.{Contains-filter, Contains-from_filter}
use Rattle.hlc_values.proofs.PigeonLemmas.{served, sum_by_one}
use Rattle.hlc_rows.specs.{Rows.IsRowSet, Rows.IsSameVersion, declared.row.Row.Row}
use Rattle.hlc_table_column.proofs.FlagLemmas.{filter-IsRowSet}
use Rattle.hlc_vacuum.specs.Representing.{count_above}
use Rattle.hlc_vacuum_draft.specs.Vacuumed.{rows_to}
use Rattle.hlc_vacuum_draft.proofs.PartLemmas.{apart_rows}

-- a list is its rows at or below a bound and its rows above it
pub split_count : (bound : ℕ) (rows : List Row) → length rows ≡ length (rows_to bound rows) + count_above bound rows
split_count bound [] = refl
split_count bound (row ∷ rows) =
    let h = split_count bound rows in
    elim (cases_lt bound row.stamp) [
      | inl lt ↦ let a = lt-leb row.stamp bound lt in let b = lt-ltb bound row.stamp lt in rw (a, b) (omega arith)
      | inr ge ↦ let a = le-leb row.stamp bound ge in let b = le-ltb bound row.stamp ge in rw (a, b) (omega arith)
    ]

above_count : (bound : ℕ) (rows others : List Row) → IsRowSet rows
    → ((row : Row) → Contains rows row → bound < row.stamp → Contains others row)
    → count_above bound rows ≤ count_above bound others
above_count bound rows others set' f =
    let h : sum_by (λ _. 1) (filter (λ row. ltb bound row.stamp) rows)
    ≤ sum_by (λ _. 1) (filter (λ row. ltb bound row.stamp) others) =
    served (λ (a b : Row). IsSameVersion a b → ⊥) (λ (a b : Row). a ≡ b) (λ _. 1) (λ _. 1)
    (λ a b e. omega arith)
    (λ a b x d e g. let same = e ∙ sym g in d (record {
      key = ap (λ (r : Row). r.key) same;
      stamp = ap (λ (r : Row). r.stamp) same;
      node = ap (λ (r : Row). r.node) same;
    }))
    (filter (λ row. ltb bound row.stamp) rows) (filter (λ row. ltb bound row.stamp) others)
    (apart_rows (filter (λ row. ltb bound row.stamp) rows) (filter-IsRowSet (λ r. ltb bound r.stamp) rows set'))
    (λ row i. let p = Contains-from_filter (λ r. ltb bound r.stamp) rows row i in (
      row,
      Contains-filter (λ r. ltb bound r.stamp) others row (f row p.0 (ltb-true bound row.stamp p.1)) p.1,
      refl,
    )) in
    let p = sum_by_one (filter (λ row. ltb bound row.stamp) rows) in
    let q = sum_by_one (filter (λ row. ltb bound row.stamp) others) in
    omega arith

-- two row sets with the same rows above the bound have as many of them
pub same_above : (bound : ℕ) (rows others : List Row) → IsRowSet rows → IsRowSet others
    → ((row : Row) → Contains rows row → bound < row.stamp → Contains others row)
    → ((row : Row) → Contains others row → bound < row.stamp → Contains rows row)
    → count_above bound rows ≡ count_above bound others
same_above bound rows others set' others_set f g = let a = above_count bound rows others set' f in
    let b = above_count bound others rows others_set g in omega arith

-- one more row above the bound
pub count_push : (bound : ℕ) (rows : List Row) (row : Row) → bound < row.stamp
    → count_above bound (rows ++ row ∷ []) ≡ count_above bound rows + 1
count_push bound [] row lt = let b = lt-ltb bound row.stamp lt in rw b refl
count_push bound (first ∷ rows) row lt =
    let h = count_push bound rows row lt in
    elim (ltb bound first.stamp) as (λ b. length (cond b (first ∷ filter (λ x. ltb bound x.stamp) (rows ++ row ∷ []))
    (filter (λ x. ltb bound x.stamp) (rows ++ row ∷ [])))
    ≡ length (cond b (first ∷ filter (λ x. ltb bound x.stamp) rows) (filter (λ x. ltb bound x.stamp) rows)) + 1) [
      | true ↦ omega arith
      | false ↦ h
    ]

-- The members of a list whose flags are set: of two lists one after the other, after a map, and of a row set, where
-- they are a row set again since each was in it; so are the rows that pass a test. Each is shown by going through the
-- list.
use Rattle.std.proofs.Common.{◌≡◌, Bool, true, false, List, [], ◌∷◌, ◌++◌, length, refl, ap, inl, inr, arith, Contains}
use Rattle.std.proofs.Common.{filter, map, take, drop}
use Rattle.std.{specs.List.items_where_true, proofs.lemmas.Bool.cond_both}
use Rattle.hlc_values.proofs.MemberLemmas.{Contains-rest, Contains-cons_cases, Contains-from_filter}
use Rattle.hlc_rows.specs.{declared.row.Row.Row, Rows.IsRowSet}

pub flagged-none : {X : Type 0} (flags : List Bool) → items_where_true {X = X} flags [] ≡ []
flagged-none [] = refl
flagged-none (b ∷ flags) = refl

-- the flags of some rows, and those of the others
pub flagged-append : {X : Type 0} (xs ys : List X) (flags : List Bool)
    → length flags ≡ length (xs ++ ys) → items_where_true flags (xs ++ ys)
    ≡ items_where_true (take (length xs) flags) xs ++ items_where_true (drop (length xs) flags) ys
flagged-append [] ys flags e = refl
flagged-append (x ∷ xs) ys [] e = absurd (omega (arith, e))
flagged-append (x ∷ xs) ys (true ∷ flags) e = ap (λ zs. x ∷ zs) (flagged-append xs ys flags (omega (arith, e)))
flagged-append (x ∷ xs) ys (false ∷ flags) e = flagged-append xs ys flags (omega (arith, e))

pub flagged-map : {X Y : Type 0} (f : X → Y) (flags : List Bool) (xs : List X)
    → map f (items_where_true flags xs) ≡ items_where_true flags (map f xs)
flagged-map f [] xs = refl
flagged-map f (b ∷ flags) [] = refl
flagged-map f (true ∷ flags) (x ∷ xs) = ap (λ ys. f x ∷ ys) (flagged-map f flags xs)
flagged-map f (false ∷ flags) (x ∷ xs) = flagged-map f flags xs

pub flagged-Contains : {X : Type 0} (flags : List Bool) (xs : List X) (x : X)
    → Contains (items_where_true flags xs) x → Contains xs x
flagged-Contains [] xs x (k, lt, e) = absurd (omega (arith, lt))
flagged-Contains (b ∷ flags) [] x (k, lt, e) = absurd (omega (arith, lt))
flagged-Contains (true ∷ flags) (y ∷ ys) x i = elim (Contains-cons_cases y x (items_where_true flags ys) i) [
  | inl e ↦ (0, omega arith, e)
  | inr r ↦ Contains-rest y x ys (flagged-Contains flags ys x r)
]
flagged-Contains (false ∷ flags) (y ∷ ys) x i = Contains-rest y x ys (flagged-Contains flags ys x i)

pub flagged-IsRowSet : (flags : List Bool) (rows : List Row) → IsRowSet rows → IsRowSet (items_where_true flags rows)
flagged-IsRowSet [] rows apart = tt
flagged-IsRowSet (b ∷ flags) [] apart = tt
flagged-IsRowSet (true ∷ flags) (row ∷ rows) apart =
    (λ other i. apart.0 other (flagged-Contains flags rows other i), flagged-IsRowSet flags rows apart.1)
flagged-IsRowSet (false ∷ flags) (row ∷ rows) apart = flagged-IsRowSet flags rows apart.1

pub filter-IsRowSet : (p : Row → Bool) (rows : List Row) → IsRowSet rows → IsRowSet (filter p rows)
filter-IsRowSet p [] apart = tt
filter-IsRowSet p (row ∷ rows) apart =
    cond_both (p row) (row ∷ filter p rows) (filter p rows) IsRowSet
    (λ t. (λ other i. apart.0 other (Contains-from_filter p rows other i).0, filter-IsRowSet p rows apart.1))
    (λ f. filter-IsRowSet p rows apart.1)

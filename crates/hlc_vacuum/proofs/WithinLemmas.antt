-- Rows that are others at the places of flags: of rows that are so again, and by how many they are fewer.
use Rattle.std.proofs.Common.{◌≡◌, ◌≤◌, Bool, true, false, List, [], ◌∷◌, length, refl, sym, ap, ◌∙◌, arith}
use Rattle.std.specs.List.{items_where_true}
use Rattle.hlc_rows.specs.declared.row.Row.{Row}
use Rattle.hlc_table_column.proofs.FlagLemmas.{flagged-none}
use Rattle.hlc_vacuum.specs.Representing.{IsWithin}

pub within-same : (rows : List Row) → IsWithin rows rows
within-same [] = ([], refl)
within-same (row ∷ rows) = let more = within-same rows in (true ∷ more.0, ap (λ xs. row ∷ xs) more.1)

-- the flags of what is kept of what is kept
flags-twice : (keep more : List Bool) (rows : List Row)
    → (both : List Bool) × (items_where_true more (items_where_true keep rows) ≡ items_where_true both rows)
flags-twice [] more rows = ([], flagged-none more)
flags-twice (flag ∷ keep) more [] = ([], flagged-none more)
flags-twice (false ∷ keep) more (row ∷ rows) =
    let rest = flags-twice keep more rows in (false ∷ rest.0, rest.1)
flags-twice (true ∷ keep) [] (row ∷ rows) = ([], refl)
flags-twice (true ∷ keep) (false ∷ more) (row ∷ rows) =
    let rest = flags-twice keep more rows in (false ∷ rest.0, rest.1)
flags-twice (true ∷ keep) (true ∷ more) (row ∷ rows) =
    let rest = flags-twice keep more rows in (true ∷ rest.0, ap (λ xs. row ∷ xs) rest.1)

pub within-twice : (old mid new : List Row) → IsWithin old mid → IsWithin mid new → IsWithin old new
within-twice old mid new first then' =
    let both = flags-twice first.0 then'.0 old in
    (both.0, then'.1 ∙ ap (items_where_true then'.0) first.1 ∙ both.1)

-- they are not more, and as many only if they are the same
pub flagged-fewer : (keep : List Bool) (rows : List Row) → length (items_where_true keep rows) ≤ length rows
flagged-fewer [] rows = omega arith
flagged-fewer (flag ∷ keep) [] = omega arith
flagged-fewer (true ∷ keep) (row ∷ rows) = let more = flagged-fewer keep rows in omega arith
flagged-fewer (false ∷ keep) (row ∷ rows) = let more = flagged-fewer keep rows in omega arith

flagged-all : (keep : List Bool) (rows : List Row) → length (items_where_true keep rows) ≡ length rows
    → items_where_true keep rows ≡ rows
flagged-all [] [] e = refl
flagged-all [] (row ∷ rows) e = absurd (omega (arith, e))
flagged-all (flag ∷ keep) [] e = refl
flagged-all (true ∷ keep) (row ∷ rows) e = ap (λ xs. row ∷ xs) (flagged-all keep rows (omega (arith, e)))
flagged-all (false ∷ keep) (row ∷ rows) e =
    let fewer = flagged-fewer keep rows in absurd (omega (arith, e, fewer))

pub within-fewer : (old new : List Row) → IsWithin old new → length new ≤ length old
within-fewer old new (keep, is) =
    let fewer = flagged-fewer keep old in let many = ap length is in omega (arith, fewer, many)

pub within-all : (old new : List Row) → IsWithin old new → length new ≡ length old → new ≡ old
within-all old new (keep, is) many = is ∙ flagged-all keep old (sym (ap length is) ∙ many)

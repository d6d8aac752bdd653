-- The three lists that an input contains, and why there are none.
use Rattle.std.specs.Prelude.{◌≡◌, ◌<◌, ℕ, List, [], ◌∷◌, ◌++◌, length}
use Rattle.hlc_rows.specs.declared.row.Row.{Row as ARow}
use Rattle.hlc_witness.specs.declared.witness.Witness.{Witness as AWitness}
use Rattle.hlc_certificate.specs.declared.check_line.CheckLine.{CheckLine}
use Rattle.hlc_certificate.specs.declared.check_line.CheckLine.TheVariants.{Point, Row, Witness}
use Rattle.hlc_certificate.specs.declared.certificate.{Certificate.Certificate, NoCertificate.NoCertificate}
use Rattle.hlc_certificate.specs.declared.certificate.NoCertificate.TheVariants.{BadLine, NoMemory}
use Rattle.hlc_certificate.specs.CheckLine.{AreGoodLines, IsFirstBadLine}

-- these are the lists
pub record HasLists (certificate : Certificate) (points : List ℕ) (rows : List ARow) (witnesses : List AWitness)
    : Type 0 where
  pub points_are : certificate.points.items ≡ points
  pub rows_are : certificate.rows.items ≡ rows
  pub witnesses_are : certificate.witnesses.items ≡ witnesses

-- the lists are the old ones, with what a line says at the end of one of them
abbrev pub AddsLine : Certificate → Certificate → CheckLine → Type 0
AddsLine old new (Point stamp) = HasLists new (old.points.items ++ stamp ∷ []) old.rows.items old.witnesses.items
AddsLine old new (Row key stamp node value) =
    HasLists new old.points.items
    (old.rows.items ++ record { key = key; stamp = stamp; node = node; value = value } ∷ []) old.witnesses.items
AddsLine old new (Witness key before at) =
    HasLists new old.points.items old.rows.items
    (old.witnesses.items ++ record { key = key; before = before; at = at } ∷ [])

-- why the lines yield no lists: the line of this number is the first bad one; or there are lines, none of them bad, and
-- memory ran out for what they say
abbrev pub IsNoCertificate : List (List ℕ) → NoCertificate → Type 0
IsNoCertificate lines (BadLine number) = IsFirstBadLine lines number
IsNoCertificate lines NoMemory = (0 < length lines) × AreGoodLines lines

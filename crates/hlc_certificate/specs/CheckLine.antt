-- The lines of a certificate: what each of them says, its only spelling, and which line is the first bad one.
use Rattle.std.specs.Prelude.{◌≡◌, ℕ, ◌+◌, ◌<◌, ◌^◌, List, [], ◌∷◌, ◌++◌, length, map, codes, decimal, Option, Some}
use Rattle.std.specs.Prelude.{None, ⊤}
use Rattle.std.specs.List.{AllByRecursion}
use Rattle.hlc_clock.specs.Stamp.{stamp_text}
use Rattle.hlc_text.specs.{Text.bytes_token, Text.AreBytes, Lines.spaced}
use Rattle.hlc_rows.specs.declared.row.Row.{Row as ARow}
use Rattle.hlc_witness.specs.declared.witness.Witness.{Witness as AWitness}
use Rattle.hlc_certificate.specs.declared.check_line.CheckLine.{CheckLine}
use Rattle.hlc_certificate.specs.declared.check_line.CheckLine.TheVariants.{Point, Row, Witness}

-- the words that end a row's line: its value, or a deletion mark
abbrev pub value_words : Option (List ℕ) → List (List ℕ)
value_words None = codes "delete" ∷ []
value_words (Some value) = codes "value" ∷ bytes_token value ∷ []

-- the word for the point before a change, or for none
abbrev pub before_token : Option ℕ → List ℕ
before_token None = codes "none"
before_token (Some stamp) = stamp_text stamp

-- the words of a line
abbrev pub check_words : CheckLine → List (List ℕ)
check_words (Point stamp) = codes "point" ∷ stamp_text stamp ∷ []
check_words (Row key stamp node value) =
    codes "row" ∷ bytes_token key ∷ stamp_text stamp ∷ decimal node ∷ value_words value
check_words (Witness key before at) = codes "witness" ∷ bytes_token key ∷ before_token before ∷ stamp_text at ∷ []

-- the only line that says this
abbrev pub check_line : CheckLine → List ℕ
check_line says = spaced (check_words says)

-- a value can be written as words if it consists of bytes
abbrev pub HasValueWords : Option (List ℕ) → Type 0
HasValueWords None = ⊤
HasValueWords (Some value) = AreBytes value

-- a stamp is below 2^64
abbrev pub HasBeforeToken : Option ℕ → Type 0
HasBeforeToken None = ⊤
HasBeforeToken (Some stamp) = stamp < 2 ^ 64

-- what can be written as a line: stamps below 2^64, a node below 2^16, and bytes
abbrev pub HasCheckLine : CheckLine → Type 0
HasCheckLine (Point stamp) = stamp < 2 ^ 64
HasCheckLine (Row key stamp node value) = AreBytes key × (stamp < 2 ^ 64) × (node < 2 ^ 16) × HasValueWords value
HasCheckLine (Witness key before at) = AreBytes key × HasBeforeToken before × (at < 2 ^ 64)

-- the section to which a line belongs: points come first, then rows, and then witnesses
abbrev pub section_of : CheckLine → ℕ
section_of (Point stamp) = 0
section_of (Row key stamp node value) = 1
section_of (Witness key before at) = 2

-- what the line of a point says
abbrev pub says_point : ℕ → CheckLine
says_point stamp = Point stamp

-- what the line of a row says
abbrev pub says_row : ARow → CheckLine
says_row row = Row row.key row.stamp row.node row.value

-- what the line of a witness says
abbrev pub says_witness : AWitness → CheckLine
says_witness witness = Witness witness.key witness.before witness.at

-- what the lines of a certificate say: its points, then its rows, and then its witnesses
abbrev pub all_said : List ℕ → List ARow → List AWitness → List CheckLine
all_said points rows witnesses = map says_point points ++ map says_row rows ++ map says_witness witnesses

-- the lines are those of these points, rows and witnesses
abbrev pub AreLinesOf : List ℕ → List ARow → List AWitness → List (List ℕ) → Type 0
AreLinesOf points rows witnesses lines =
    AllByRecursion HasCheckLine (all_said points rows witnesses)
    × (lines ≡ map check_line (all_said points rows witnesses))

-- no line is bad
abbrev pub AreGoodLines : List (List ℕ) → Type 0
AreGoodLines lines = (points : List ℕ) × (rows : List ARow) × (witnesses : List AWitness)
    × AreLinesOf points rows witnesses lines

-- the line of this number is the first bad one: those before it are good, and with it they are not
pub record IsFirstBadLine (lines : List (List ℕ)) (number : ℕ) : Type 0 where
  pub front : List (List ℕ)
  pub line : List ℕ
  pub back : List (List ℕ)
  pub order : lines ≡ front ++ line ∷ back
  pub good : AreGoodLines front
  pub bad : AreGoodLines (front ++ line ∷ []) → ⊥
  pub count : number ≡ length front + 1

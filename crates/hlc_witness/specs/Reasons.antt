-- Why rows, points and witnesses are no certificate: the first reason that applies.
use Rattle.std.specs.Prelude.{◌≡◌, ◌⊎◌, ℕ, List, ◌∷◌, ◌++◌, length, All, codes}
use Rattle.std.specs.declared.cmp.Ordering.TheVariants.{Less}
use Rattle.hlc_rows.specs.{declared.row.Row.Row, Rows.answer}
use Rattle.hlc_witness.specs.declared.{witness.Witness.Witness, reason.NotShown.NotShown}
use Rattle.hlc_witness.specs.declared.reason.NotShown.TheVariants.{PointsNotAscending, RowsNotAscending}
use Rattle.hlc_witness.specs.declared.reason.NotShown.TheVariants.{RowAboveLastPoint, WitnessNotAscending, NotAtPoint}
use Rattle.hlc_witness.specs.declared.reason.NotShown.TheVariants.{SameAnswers, CountsDiffer, RowOutOfLimits}
use Rattle.hlc_clock.specs.Points.{PointsAscend}
use Rattle.hlc_witness.specs.Changes.{answer_at, IsAtPoint, IsChange, change_cmp, ChangesAscend}
use Rattle.hlc_witness.specs.{Certificate.RowsAscend, Certificate.NoneAbove, Cost.AreInLimits}

-- the number of a reason: reasons are checked in the order of their numbers
abbrev pub reason_number : NotShown → ℕ
reason_number PointsNotAscending = 1
reason_number RowsNotAscending = 2
reason_number RowAboveLastPoint = 3
reason_number WitnessNotAscending = 4
reason_number NotAtPoint = 5
reason_number SameAnswers = 6
reason_number CountsDiffer = 7
reason_number RowOutOfLimits = 8

-- the text of a reason
abbrev pub reason_text : NotShown → List ℕ
reason_text PointsNotAscending = codes "there is no point, or the points do not ascend"
reason_text RowsNotAscending = codes "the rows do not ascend by key, stamp and node"
reason_text RowAboveLastPoint = codes "a row is above the last point"
reason_text WitnessNotAscending = codes "the witnesses do not ascend by key and stamp"
reason_text NotAtPoint = codes "a witness is not at a point, or not after the point before"
reason_text SameAnswers = codes "the answers at the two points of a witness are equal"
reason_text CountsDiffer = codes "there are not as many witnesses as rows"
reason_text RowOutOfLimits = codes "a key or a value is out of the limits"

-- the witness is above those before it
abbrev pub IsAbove : List Witness → Witness → Type 0
IsAbove front witness = All (λ other. change_cmp other witness ≡ Less) front

-- unless this holds, one thing is so; and if it holds, another
abbrev pub Unless : Type 0 → Type 0 → Type 0 → Type 0
Unless condition now later = ((condition → ⊥) × now) ⊎ (condition × later)

-- the first reason against one witness, after those before it
abbrev pub IsFault : List Row → List ℕ → List Witness → Witness → NotShown → Type 0
IsFault rows points front witness reason =
    Unless (IsAbove front witness) (reason ≡ WitnessNotAscending)
    (Unless (IsAtPoint points witness) (reason ≡ NotAtPoint)
    ((answer rows witness.key witness.at ≡ answer_at rows witness.key witness.before) × (reason ≡ SameAnswers)))

-- the first reason against the first witness that has one: those before it are changes, ascending
pub record IsFirstFault (rows : List Row) (points : List ℕ) (witnesses : List Witness)
    (reason : NotShown) : Type 0 where
  pub front : List Witness
  pub witness : Witness
  pub back : List Witness
  pub order : witnesses ≡ front ++ witness ∷ back
  pub ascend : ChangesAscend front
  pub each : All (IsChange rows points) front
  pub fault : IsFault rows points front witness reason

-- the first reason of all
abbrev pub IsFirstReason : List Row → List ℕ → List Witness → NotShown → Type 0
IsFirstReason rows points witnesses reason =
    Unless (PointsAscend points) (reason ≡ PointsNotAscending)
    (Unless (RowsAscend rows) (reason ≡ RowsNotAscending)
    (Unless (NoneAbove points rows) (reason ≡ RowAboveLastPoint)
    (IsFirstFault rows points witnesses reason
    ⊎ (ChangesAscend witnesses × All (IsChange rows points) witnesses
    × Unless (length witnesses ≡ length rows) (reason ≡ CountsDiffer)
    ((AreInLimits rows → ⊥) × (reason ≡ RowOutOfLimits))))))

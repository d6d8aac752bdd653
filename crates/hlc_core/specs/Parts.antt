-- Part of a vacuum: rows of the keys of one kind are dropped, and all other rows stay.
use Rattle.std.specs.Prelude.{◌≡◌, ℕ, ◌+◌, List, ◌∷◌, length, filter, Bool, not, Option, None, Result, Ok, Err, ⊤}
use Rattle.hlc_rows.specs.declared.row.Row.{Row}
use Rattle.hlc_witness.specs.{Changes.AreChanges, Cost.changes_cost}
use Rattle.hlc_vacuum_draft.specs.{declared.report.Numbers.Numbers, declared.report.Report.Report, Report.numbers_of}
use Rattle.hlc_columns.specs.Answers.{AreNext, in_part, part_end}
use Rattle.hlc_table_column.specs.Rows.{KeyCells}
use Rattle.hlc_events.specs.declared.fault.CoreFault.{CoreFault}
use Rattle.hlc_core.specs.{Calls.IsRefusal, StoreView.StoreView, StoreView.Represents}
use Rattle.hlc_core.specs.Past.{Step, PartVacuumed, writes, vacuum_refusal}
use Rattle.hlc_core.specs.Stored.{AreVacuumPoints, LeavesFewest}

-- among some rows, those of the keys of a kind
abbrev pub rows_of_keys : (List ℕ → Bool) → List Row → List Row
rows_of_keys is_of rows = filter (λ row. is_of row.key) rows

-- The report of a part of a vacuum to a stamp after this past, for the keys of a kind. The rows of these keys that it
-- keeps cost exactly what the changes of all accepted writes of these keys force.
pub record IsPartReport (at : ℕ) (past : List Step) (is_of : List ℕ → Bool) (report : Report) : Type 0 where
  pub at_stamp : report.floor ≡ at
  pub points : AreVacuumPoints at past report.points
  pub witnesses : AreChanges (rows_of_keys is_of (writes past)) report.points report.witnesses
  pub kept : report.kept ≡ length report.witnesses
  pub bytes : report.bytes ≡ changes_cost (rows_of_keys is_of (writes past)) report.witnesses

-- Part of a vacuum to a stamp took place: the core represents it, and the report is the expected one, with the number
-- of rows that were dropped. The rows of these keys that are left are the fewest and the cheapest against all accepted
-- writes of these keys, and all other rows stay.
pub record VacuumsKeys (old new : StoreView) (at : ℕ) (past : List Step) (is_of : List ℕ → Bool)
    (report : Report) : Type 0 where
  pub represents : Represents new (PartVacuumed at report.dropped ∷ past)
  pub others : rows_of_keys (λ key. not (is_of key)) new.rows ≡ rows_of_keys (λ key. not (is_of key)) old.rows
  pub expected : IsPartReport at past is_of report
  pub dropped : report.dropped + length new.rows ≡ length old.rows
  pub fewest : LeavesFewest (rows_of_keys is_of new.rows) (rows_of_keys is_of (writes past)) report

-- a part of the stored rows, of the first keys above one, at most this many, ends at this key, above which keys may be
-- left; or nowhere, and none is left
pub record EndsAt (kept : StoreView) (after : List ℕ) (limit : ℕ) (end : Option (List ℕ)) : Type 0 where
  pub columns : List KeyCells
  pub next : AreNext kept.rows after limit columns
  pub is : end ≡ part_end after limit columns

-- part of a vacuum to the stamp took place, of the first keys above one, at most this many, and where it ended is
-- returned; or it was refused
abbrev pub VacuumsPart
    : StoreView → StoreView → ℕ → List ℕ → ℕ → List Step
    → Result (Report × Option (List ℕ)) CoreFault → Type 0
VacuumsPart old new at after limit past (Ok made) =
    (vacuum_refusal past at ≡ None) × EndsAt old after limit made.1
    × VacuumsKeys old new at past (in_part after made.1) made.0
VacuumsPart old new at after limit past (Err fault) = IsRefusal (vacuum_refusal past at) ⊤ fault

-- part of a vacuum to the stamp took place, and these are the numbers of its report
pub record VacuumsKeysCounted (old new : StoreView) (at : ℕ) (past : List Step) (is_of : List ℕ → Bool)
    (numbers : Numbers) : Type 0 where
  pub report : Report
  pub vacuums_keys : VacuumsKeys old new at past is_of report
  pub are : numbers ≡ numbers_of report

-- the same as `VacuumsPart` with the numbers of the report in its place
abbrev pub VacuumsPartCounted
    : StoreView → StoreView → ℕ → List ℕ → ℕ → List Step
    → Result (Numbers × Option (List ℕ)) CoreFault → Type 0
VacuumsPartCounted old new at after limit past (Ok made) =
    (vacuum_refusal past at ≡ None) × EndsAt old after limit made.1
    × VacuumsKeysCounted old new at past (in_part after made.1) made.0
VacuumsPartCounted old new at after limit past (Err fault) = IsRefusal (vacuum_refusal past at) ⊤ fault

-- After this past part of a vacuum may have this report and end there: in some store that represents the past it does.
-- Which keys have stored rows also depends on the keys of the parts before it, which a past does not have.
pub record MayVacuumPart (at : ℕ) (after : List ℕ) (limit : ℕ) (past : List Step) (report : Report)
    (end : Option (List ℕ)) : Type 0 where
  pub old : StoreView
  pub new : StoreView
  pub represents : Represents old past
  pub made : VacuumsPart old new at after limit past (Ok (report, end))

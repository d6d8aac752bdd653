-- The plan of the columns of some keys, and what is done by it.
use Rattle.std.specs.Prelude.{◌≡◌, ◌+◌, ◌≤◌, ◌∷◌, [], ℕ, Bool, List, ⊤, length, take, drop, filter, not, Contains}
use Rattle.hlc_rows.specs.{declared.row.Row.Row, Rows.IsRowSet}
use Rattle.hlc_witness.specs.Cost.{rows_cost}
use Rattle.hlc_columns.specs.{Answers.AreNext, Answers.part_end, Table.rows_kept}
use Rattle.hlc_table_column.specs.Rows.{rows_with, KeyCells, keys_in, rows_in}
use Rattle.hlc_vacuum_draft.specs.Plan.{IsPlanOf, PlanView, tally_of}
use Rattle.hlc_vacuum_draft.specs.{Vacuumed.IsVacuumOf, Vacuumed.rows_to, declared.report.Report.Report}
use Rattle.hlc_vacuum.specs.declared.part.{PartPlan.PartPlan, PartTally.PartTally}

-- among some rows those of several keys are kept if their flags are set, each key in turn with as many flags as it has
-- rows; all others are kept
abbrev pub all_kept : List (List ℕ) → List Bool → List Row → List Row
all_kept [] flags rows = rows
all_kept (key ∷ keys) flags rows =
    all_kept keys (drop (length (rows_with key rows)) flags)
    (rows_kept key (take (length (rows_with key rows)) flags) rows)

-- there are enough flags for the rows of these keys in turn
abbrev pub HaveFlags : List (List ℕ) → List Bool → List Row → Type 0
HaveFlags [] flags rows = ⊤
HaveFlags (key ∷ keys) flags rows =
    (length (rows_with key rows) ≤ length flags)
    × HaveFlags keys (drop (length (rows_with key rows)) flags)
    (rows_kept key (take (length (rows_with key rows)) flags) rows)

-- The part has the plan of the columns of the first keys above one, at most this many, with these keys and where they
-- end.
pub record IsPartOf (part : PartPlan) (rows : List Row) (after : List ℕ) (limit : ℕ) : Type 0 where
  pub columns : List KeyCells
  pub next : AreNext rows after limit columns
  pub row_set : IsRowSet rows
  pub keys : part.keys.items ≡ keys_in columns
  pub plan : IsPlanOf part.plan (rows_in columns)
  pub end : part.end ≡ part_end after limit columns

-- the part with a plan in place of its tally
abbrev pub with_plan : PartTally → PlanView → PartPlan
with_plan part plan = record { plan = plan; keys = part.keys; end = part.end }

-- The part has the tally of such a plan, with these keys and where they end.
pub record IsPartTallyOf (part : PartTally) (rows : List Row) (after : List ℕ) (limit : ℕ) : Type 0 where
  pub plan : PlanView
  pub made : IsPartOf (with_plan part plan) rows after limit
  pub is : part.tally ≡ tally_of plan

-- Rows of the keys of a kind were vacuumed, as the report says, and all others stayed.
pub record IsPartVacuum (old new : List Row) (is_of : List ℕ → Bool) (report : Report) : Type 0 where
  pub row_set : IsRowSet new
  pub within : (row : Row) → Contains new row → Contains old row
  pub others : filter (λ row. not (is_of row.key)) new ≡ filter (λ row. not (is_of row.key)) old
  pub vacuumed : IsVacuumOf (filter (λ row. is_of row.key) old) report.points report.witnesses
      (filter (λ row. is_of row.key) new)
  pub kept : report.kept ≡ length report.witnesses
  pub bytes : report.bytes ≡ rows_cost (rows_to report.floor (filter (λ row. is_of row.key) new))
  pub dropped : report.dropped + length new ≡ length old

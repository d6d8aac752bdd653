-- The report of a plan.
use Rattle.std.specs.Prelude.{[], length, count_by, not}
use Rattle.hlc_clock.specs.Points.{last_point}
use Rattle.hlc_vacuum_draft.specs.declared.report.{Numbers.Numbers, Report.Report}
use Rattle.hlc_vacuum_draft.specs.Plan.{PlanView, TallyView}

-- its last point is the floor; one row is kept for each change, at the cost in the plan; and the rows that it does not
-- keep are dropped
abbrev pub report_of : PlanView → Report
report_of plan = record {
  floor = last_point plan.points;
  points = plan.points;
  kept = length plan.witnesses;
  bytes = plan.bytes;
  dropped = count_by not plan.keep;
  witnesses = plan.witnesses;
}

-- the numbers of a report
abbrev pub numbers_of : Report → Numbers
numbers_of report = record {
  floor = report.floor;
  kept = report.kept;
  bytes = report.bytes;
  dropped = report.dropped;
}

-- the numbers in a tally: those of the report of a plan that has this tally
abbrev pub numbers_in : TallyView → Numbers
numbers_in tally = record {
  floor = last_point tally.points;
  kept = tally.kept;
  bytes = tally.bytes;
  dropped = count_by not tally.keep;
}

-- the report of no vacuum
abbrev pub blank_report : Report
blank_report = record { floor = 0; points = []; kept = 0; bytes = 0; dropped = 0; witnesses = [] }

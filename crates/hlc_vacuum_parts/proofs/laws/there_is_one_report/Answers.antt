-- The points of a vacuum are one list, and so are its changes.
use Rattle.hlc_core.proofs.ReportLemmas.{there_is_one_report, there_is_one_count}
use Rattle.hlc_vacuum_parts.proofs.laws.there_is_one_report.Goals as goal

pub returns-clause-report : goal.returns-clause-report
returns-clause-report c = there_is_one_report

pub returns-clause-count : goal.returns-clause-count
returns-clause-count c = there_is_one_count

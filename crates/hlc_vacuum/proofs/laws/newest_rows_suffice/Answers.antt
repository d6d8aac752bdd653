-- Rows that include the newest at each change answer alike, and there is one for each change.
use Rattle.hlc_vacuum_draft.proofs.VacuumLemmas.{newest_rows_suffice}
use Rattle.hlc_vacuum.proofs.laws.newest_rows_suffice.Goals as goal

pub returns : goal.returns
returns c = newest_rows_suffice

-- A row above the horizon is stored, and is later than each row that was dropped.
use Rattle.hlc_vacuum.proofs.RepresentingLemmas.{writes_keep_representing, writes_are_counted}
use Rattle.hlc_vacuum.proofs.laws.writes_keep_representing.Goals as goal

pub returns-clause-represents : goal.returns-clause-represents
returns-clause-represents c = writes_keep_representing

pub returns-clause-count : goal.returns-clause-count
returns-clause-count c = writes_are_counted

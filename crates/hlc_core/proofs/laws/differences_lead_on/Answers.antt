-- Each key whose answers differ has its new value after the differences, and needs one change.
use Rattle.hlc_core.proofs.DifferenceLemmas.{differences-lead, differences-least}
use Rattle.hlc_core.proofs.laws.differences_lead_on.Goals as goal

pub returns-clause-leads : goal.returns-clause-leads
returns-clause-leads c = differences-lead

pub returns-clause-least : goal.returns-clause-least
returns-clause-least c = differences-least

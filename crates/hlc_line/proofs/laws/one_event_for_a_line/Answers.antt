-- A line is split into its words, the first of which determines the kind, and each other one value.
use Rattle.hlc_line.proofs.LineLemmas.{one_event}
use Rattle.hlc_line.proofs.laws.one_event_for_a_line.Goals as goal

pub returns : goal.returns
returns c = one_event

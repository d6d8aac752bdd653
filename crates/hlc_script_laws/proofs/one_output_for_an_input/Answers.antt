-- The header, each line's event and each event's reply are determined, unless memory runs out.
use Rattle.hlc_script_laws.proofs.Outputs.{one_output}
use Rattle.hlc_script_laws.proofs.one_output_for_an_input.Goals as goal

pub returns : goal.returns
returns c = one_output

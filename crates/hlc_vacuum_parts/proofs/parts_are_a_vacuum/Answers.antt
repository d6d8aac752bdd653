-- From each key on the parts are together one part, and each key of a row is above the empty one.
use Rattle.hlc_vacuum_parts.proofs.Passes.{parts-are-a-vacuum}
use Rattle.hlc_vacuum_parts.proofs.parts_are_a_vacuum.Goals as goal

pub returns : goal.returns
returns c = parts-are-a-vacuum

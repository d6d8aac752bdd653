-- The core represents the store's history.
use Rattle.hlc_world.proofs.Faithful.{faithful}
use Rattle.hlc_world.proofs.laws.worlds_are_faithful.Goals as goal

pub returns : goal.returns
returns c = faithful

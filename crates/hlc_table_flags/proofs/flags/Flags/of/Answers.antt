-- The flags themselves.
use Rattle.std.proofs.Common.{refl}
use Rattle.hlc_table_flags.proofs.flags.Flags.of.Goals as goal

pub returns : goal.returns
returns c = refl

-- There are as many bits.
use Rattle.std.proofs.Common.{◌∙◌, ap, sym, length}
use Rattle.hlc_table_flags.proofs.BitLemmas.{bits_length}
use Rattle.hlc_table_flags.proofs.list.FlagList.len.Goals as goal

pub returns : goal.returns
returns c = sym (bits_length c.self.inside.words.items 0 c.self.inside.len) ∙ ap length c.self.view_is

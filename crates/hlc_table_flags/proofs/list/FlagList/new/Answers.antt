-- No words have no bit.
use Rattle.std.proofs.Common.{◌∙◌, ap, length, refl}
use Rattle.hlc_table_flags.{specs.Bits.bit_in, proofs.WordLemmas.no_bits}
use Rattle.hlc_table_flags.proofs.list.FlagList.new.Goals as goal

pub invariant_of-result : goal.invariant_of-result
invariant_of-result c = (
  ap length c.new.ensures.items,
  λ at _. ap (λ words. bit_in words at) c.new.ensures.items ∙ no_bits at,
)

pub returns : goal.returns
returns c = refl

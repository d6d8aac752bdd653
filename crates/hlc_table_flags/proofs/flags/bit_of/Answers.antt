-- The lowest bit after a shift.
use Rattle.std.proofs.{Common.◌/◌, Common.◌%◌, Common.ap, Common.get_or, Common.nat_eq, lemmas.Nat.Bits.shr_and_one}
use Rattle.hlc_table_flags.proofs.flags.bit_of.Goals as goal

pub returns : goal.returns
returns c = ap (λ b. nat_eq b 1) (shr_and_one (get_or c.args.words.now (c.args.at / 64) 0) (c.args.at % 64))

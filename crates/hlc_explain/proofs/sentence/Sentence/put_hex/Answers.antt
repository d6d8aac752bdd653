-- The first digit, and then the second.
use Rattle.std.proofs.Common.{arith, rules, true, ◌/◌, ◌%◌}
use Rattle.std.specs.Fmt.{digit_glyph}
use Rattle.hlc_explain.proofs.Sentences.{both_digits}
use Rattle.hlc_explain.proofs.sentence.Sentence.put_hex.Goals as goal

pub returns : goal.returns
returns c =
    both_digits c.args.self.now c.put_byte.new.self c.put_byte-2.new.self
    (digit_glyph true (c.args.byte / 16)) (digit_glyph true (c.args.byte % 16))
    (c.hex_digit.ensures (search (rules, arith))) (c.hex_digit-2.ensures (search (rules, arith)))
    c.put_byte.ensures c.put_byte-2.ensures

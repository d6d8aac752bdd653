-- The digits begin where the text ended, and a number below 2^64 has twenty digits at most.
use Rattle.std.proofs.Common.{◌≡◌, ◌≤◌, ◌+◌, drop, decimal, length, length-append, arith}
use Rattle.std.proofs.lemmas.{Fmt.length-decimal-le, List.length-take-le}
use Rattle.hlc_text.proofs.Appended.{text_after}
use Rattle.hlc_text.proofs.waiting.Waiting.put_number.Goals as goal

pub overflow_add-end : goal.overflow_add-end
overflow_add-end c =
    let few : length (decimal c.args.number) ≤ 20 =
    length-decimal-le 20 c.args.number (omega arith) (omega arith) c.ranges.number.fits in
    omega (arith, few, c.digits.ensures, c.self.invariant)

pub write_digits-requires : goal.write_digits-requires
write_digits-requires c =
    let few : length (decimal c.args.number) ≤ 20 =
    length-decimal-le 20 c.args.number (omega arith) (omega arith) c.ranges.number.fits in
    let long = length-take-le c.self.inside.end c.self.inside.bytes (omega (arith, c.self.invariant)) in
    (omega (arith, c.digits.ensures), omega (arith, few, c.digits.ensures, long, rw (← c.self.view_is) at c.requires))

pub returns-clause-text : goal.returns-clause-text
returns-clause-text c =
    let here : c.write_digits.result ≡ c.self.inside.end =
    omega (arith, c.write_digits.ensures.start, c.digits.ensures) in
    rw (c.digits.ensures, ← c.self.view_is)
    (text_after c.self.inside.bytes c.write_digits.new.buf (decimal c.args.number)
    (drop (c.self.inside.end + c.digits.result) c.self.inside.bytes) c.self.inside.end
    (omega (arith, c.self.invariant)) (rw here at c.write_digits.ensures.before)
    (rw here at c.write_digits.ensures.written))

pub returns-clause-short : goal.returns-clause-short
returns-clause-short c =
    let few : length (decimal c.args.number) ≤ 20 =
    length-decimal-le 20 c.args.number (omega arith) (omega arith) c.ranges.number.fits in
    rw (returns-clause-text c)
    (omega (arith, few, length-append c.args.self.now (decimal c.args.number)))

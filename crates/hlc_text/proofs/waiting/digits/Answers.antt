-- The number lies between two powers of ten, so it has that many digits.
use Rattle.std.proofs.{Common.arith, lemmas.Fmt.decimal_nonempty, lemmas.Fmt.length-decimal-le}
use Rattle.hlc_text.proofs.Numbers.{decimal_long}
use Rattle.hlc_text.proofs.waiting.digits.Goals as goal

pub returns-then-number-lt10 : goal.returns-then-number-lt10
returns-then-number-lt10 c =
    omega (
      arith,
      decimal_nonempty c.args.number c.ranges.number.fits,
      length-decimal-le 1 c.args.number (omega arith) (omega (arith, c.if-number-lt10.true)) c.ranges.number.fits,
    )

pub returns-then-number-lt100 : goal.returns-then-number-lt100
returns-then-number-lt100 c =
    decimal_long 2 c.args.number (omega arith) c.ranges.number.fits (omega (arith, c.if-number-lt10.false))
    (omega (arith, c.if-number-lt100.true))

pub returns-then-number-lt1000 : goal.returns-then-number-lt1000
returns-then-number-lt1000 c =
    decimal_long 3 c.args.number (omega arith) c.ranges.number.fits (omega (arith, c.if-number-lt100.false))
    (omega (arith, c.if-number-lt1000.true))

pub returns-then-number-lt10000 : goal.returns-then-number-lt10000
returns-then-number-lt10000 c =
    decimal_long 4 c.args.number (omega arith) c.ranges.number.fits (omega (arith, c.if-number-lt1000.false))
    (omega (arith, c.if-number-lt10000.true))

pub returns-then-number-lt100000 : goal.returns-then-number-lt100000
returns-then-number-lt100000 c =
    decimal_long 5 c.args.number (omega arith) c.ranges.number.fits (omega (arith, c.if-number-lt10000.false))
    (omega (arith, c.if-number-lt100000.true))

pub returns-then-number-lt1000000 : goal.returns-then-number-lt1000000
returns-then-number-lt1000000 c =
    decimal_long 6 c.args.number (omega arith) c.ranges.number.fits (omega (arith, c.if-number-lt100000.false))
    (omega (arith, c.if-number-lt1000000.true))

pub returns-then-number-lt10000000 : goal.returns-then-number-lt10000000
returns-then-number-lt10000000 c =
    decimal_long 7 c.args.number (omega arith) c.ranges.number.fits (omega (arith, c.if-number-lt1000000.false))
    (omega (arith, c.if-number-lt10000000.true))

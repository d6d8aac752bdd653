-- Ten to the count has one digit more than the count, and a number below it has no more digits.
use Rattle.std.proofs.Common.{◌≡◌, ◌≤◌, ◌<◌, ◌+◌, ◌^◌, ◌∙◌, refl, sym, ap, suc, arith}
use native.Mathlib.Nat.{pow-le-pow_right, pow-suc}
use Rattle.std.proofs.lemmas.Fmt.{length-decimal-le}
use Rattle.hlc_text.proofs.Numbers.{decimal_longer, decimal_long}
use Rattle.hlc_text.proofs.waiting.many_digits.Goals as goal

pub loop-bound-init : goal.loop-bound-init
loop-bound-init c = record {
  power = refl;
  some = omega arith;
  few = omega arith;
  within = omega (arith, decimal_longer 7 c.args.number c.ranges.number.fits (omega (arith, c.requires)));
}

pub returns-then-count-eq19 : goal.returns-then-count-eq19
returns-then-count-eq19 c =
    let power = rw c.if-count-eq19.true at c.loop-bound.invariant.power in
    decimal_long 20 c.args.number (omega arith) c.ranges.number.fits (omega (arith, power, c.loop-bound-test.true))
    (omega (arith, c.ranges.number.fits))

pub overflow_mul-bound : goal.overflow_mul-bound
overflow_mul-bound c =
    let few : c.loop-bound.count ≤ 18 = omega (arith, c.loop-bound.invariant.few, c.if-count-eq19.false) in
    let small : 10 ^ c.loop-bound.count ≤ 10 ^ 18 = pow-le-pow_right {n = 10} (omega arith) few in
    omega (arith, c.loop-bound.invariant.power, small)

pub loop-bound-preserved : goal.loop-bound-preserved
loop-bound-preserved c =
    let large : 10 ^ c.loop-bound.count ≤ c.args.number =
    rw (← c.loop-bound.invariant.power) (omega (arith, c.loop-bound-test.true)) in
    let next : c.loop-bound.count + 1 ≡ suc c.loop-bound.count = omega arith in record {
      power = rw c.loop-bound.invariant.power
          (sym (ap (λ j. 10 ^ j) next ∙ pow-suc 10 c.loop-bound.count));
      some = omega (arith, c.loop-bound.invariant.some);
      few = omega (arith, c.loop-bound.invariant.few, c.if-count-eq19.false);
      within = omega (arith, decimal_longer c.loop-bound.count c.args.number c.ranges.number.fits large);
    }

pub returns : goal.returns
returns c =
    let below : c.args.number < 10 ^ c.loop-bound.count =
    rw (← c.loop-bound.invariant.power) (omega (arith, c.loop-bound-test.false)) in
    omega (
      arith,
      c.loop-bound.invariant.within,
      length-decimal-le c.loop-bound.count c.args.number (omega (arith, c.loop-bound.invariant.some)) below
          c.ranges.number.fits,
    )

-- The bound is ten to the count, and the number has no fewer digits.
use Rattle.std.proofs.Common.{◌≡◌, ◌≤◌, ◌^◌, ◌-◌, decimal, length}
use Rattle.hlc_text.proofs.waiting.many_digits.Given as goal

abbrev pub invariant-loop-bound : goal.invariant-loop-bound
invariant-loop-bound l = record {
  power : l.bound ≡ 10 ^ l.count;
  some : 8 ≤ l.count;
  few : l.count ≤ 19;
  within : l.count ≤ length (decimal l.number);
}

abbrev pub decreases-loop-bound : goal.decreases-loop-bound
decreases-loop-bound l = 20 - l.count

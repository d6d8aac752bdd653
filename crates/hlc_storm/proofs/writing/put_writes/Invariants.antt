-- The writes so far were put, and the node made as many.
use Rattle.std.proofs.Common.{◌≡◌, false}
use Rattle.hlc_storm.specs.Written.{write_items, after_writes}
use Rattle.hlc_storm.proofs.writing.put_writes.Given as goal

abbrev pub invariant-loop-number : goal.invariant-loop-number
invariant-loop-number g l = record {
  put : l.sender.put ≡ write_items l.plan.keys l.node l.number;
  going : l.sender.ended ≡ false;
  core : l.core ≡ after_writes l.node l.number;
}

-- The bytes so far pass.
use Rattle.std.proofs.Common.{◌≡◌, true, ◌-◌, ◌≤◌, length, take}
use Rattle.std.specs.List.{list_all}
use Rattle.hlc_text.specs.Text.{is_literal}
use Rattle.hlc_text.proofs.plainness.are_many_plain.Given as goal

abbrev pub invariant-loop-from : goal.invariant-loop-from
invariant-loop-from l = record {
  within : l.from ≤ length l.bytes;
  pass : list_all is_literal (take l.from l.bytes) ≡ true;
}

abbrev pub decreases-loop-from : goal.decreases-loop-from
decreases-loop-from l = length l.bytes - l.from

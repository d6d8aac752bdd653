-- The first columns of the walk are listed, and the others are left.
use Rattle.std.proofs.Common.{◌≡◌, take, drop}
use Rattle.hlc_columns.specs.{Table.keyed, Answers.entries_left}
use Rattle.hlc_columns.proofs.above.take_columns.Given as goal

abbrev pub invariant-loop : goal.invariant-loop
invariant-loop l = record {
  list : l.list.items ≡ keyed (take l.counter (entries_left l.initial.walk));
  left : entries_left l.walk ≡ drop l.counter (entries_left l.initial.walk);
}

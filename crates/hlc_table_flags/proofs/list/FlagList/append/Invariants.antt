-- The first flags were appended.
use Rattle.std.proofs.Common.{◌≡◌, ◌++◌, take}
use Rattle.hlc_table_flags.proofs.list.FlagList.append.Given as goal

abbrev pub invariant-loop-at : goal.invariant-loop-at
invariant-loop-at l = l.self ≡ l.fn.self ++ take l.at l.flags

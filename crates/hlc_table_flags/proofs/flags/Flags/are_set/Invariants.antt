-- The first flags are set.
use Rattle.std.{proofs.Common.◌≡◌, proofs.Common.true, proofs.Common.take, specs.List.list_all}
use Rattle.hlc_table_flags.proofs.flags.Flags.are_set.Given as goal

abbrev pub invariant-loop-at : goal.invariant-loop-at
invariant-loop-at l = list_all (λ flag. flag) (take l.at l.self) ≡ true

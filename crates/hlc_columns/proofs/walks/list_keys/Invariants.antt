-- The keys so far are listed, and those of the remaining entries come after them.
use Rattle.std.proofs.Common.{◌≡◌, ◌++◌, map, length}
use Rattle.hlc_table_index.specs.Entries.{entries_in, keys_in}
use Rattle.hlc_columns.specs.Answers.{entries_left}
use Rattle.hlc_columns.proofs.walks.list_keys.Given as goal

abbrev pub invariant-loop-entry : goal.invariant-loop-entry
invariant-loop-entry l =
    map (λ key. key.now) l.keys.items ++ keys_in (entries_left l.walk) ≡ keys_in (entries_in l.columns)

abbrev pub decreases-loop-entry : goal.decreases-loop-entry
decreases-loop-entry l = length (entries_left l.walk)

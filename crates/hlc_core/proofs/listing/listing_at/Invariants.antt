-- The pairs so far and the remaining ones are the answers of all keys.
use Rattle.std.proofs.Common.{◌++◌, map}
use Rattle.hlc_columns.specs.Answers.{AreAnswers}
use Rattle.hlc_core.proofs.Listed.{of_pair}
use Rattle.hlc_core.proofs.listing.listing_at.Given as goal

abbrev pub invariant-loop-key : goal.invariant-loop-key
invariant-loop-key l = AreAnswers l.table l.fn.stamp (λ key. Unit {0}) (map of_pair l.pairs.items ++ l.key-iterator)

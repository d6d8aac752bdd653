-- The pairs so far and the remaining ones are the answers of the keys of the range.
use Rattle.std.{proofs.Common.◌++◌, proofs.Common.map, specs.Prelude.option_copied}
use Rattle.hlc_columns.specs.Answers.{AreAnswers, IsBetween}
use Rattle.hlc_routing.specs.Listing.{of_pair}
use Rattle.hlc_routing.proofs.listing.listed.Given as goal

abbrev pub invariant-loop-key : goal.invariant-loop-key
invariant-loop-key l =
    AreAnswers l.view.rows l.view.stamp (IsBetween l.from (option_copied l.to))
    (map of_pair l.pairs.items ++ l.key-iterator)

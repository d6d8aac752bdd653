-- The stamps up to the bound, and the bound, sorted and without repeats, are the points.
use Rattle.std.proofs.Common.{List, ℕ, [], ◌∷◌, ◌++◌, IsPermutation, ap, ◌∙◌, subst}
use Rattle.std.proofs.lemmas.List.Filters.{dedup_is}
use Rattle.hlc_clock.specs.Points.{ArePoints}
use Rattle.hlc_clock.proofs.PointLemmas.{points-from_sorted}
use Rattle.hlc_snapshot.proofs.RegisterLemmas.{stamps_to-low, stamps_to-all}
use Rattle.hlc_snapshot.proofs.registry.Registry.points.Goals as goal

pub returns-clause-points : goal.returns-clause-points
returns-clause-points c =
    points-from_sorted _ c.sort_unstable.new.self.items _ c.args.at
    (stamps_to-low c.args.at c.args.self.now.snapshots)
    (subst (λ (stamps : List ℕ). IsPermutation stamps c.sort_unstable.new.self.items)
    (c.in_ok-push.ensures.items ∙ ap (λ stamps. stamps ++ c.args.at ∷ []) c.in_ok-points.ensures)
    c.sort_unstable.ensures.permutation)
    c.sort_unstable.ensures.sorted
    (dedup_is _ _ _ c.dedup.ensures.filtered)

pub returns-clause-all : goal.returns-clause-all
returns-clause-all c = λ low.
    subst (λ stamps. ArePoints stamps c.args.at c.dedup.new.self.items)
    (stamps_to-all c.args.at c.args.self.now.snapshots low) (returns-clause-points c)

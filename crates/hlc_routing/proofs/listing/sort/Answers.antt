-- The closure compares keys as the order does, which is total.
use Rattle.std.{proofs.Common.is_lt, proofs.Common.rules, proofs.Common.nat_cmp, specs.Cmp.Lexicographic.slice_cmp}
use Rattle.std.proofs.lemmas.{Cmp.nat_list_cmp_total, List.Sorted.ranks_by, Fn.always_returns_same}
use Rattle.hlc_core.specs.declared.listing.Pair.{Pair}
use Rattle.hlc_routing.proofs.Gathered.{sorted-ascend}
use Rattle.hlc_routing.proofs.listing.sort.Goals as goal

pub returns-clause-ascend : goal.returns-clause-ascend
returns-clause-ascend c = λ apart.
    sorted-ascend c.args.pairs.now.items c.sort_unstable_by.new.self.items c.sort_unstable_by.ensures.permutation
    (c.sort_unstable_by.ensures.sorted (λ x y. is_lt (slice_cmp nat_cmp x.key y.key))
    (ranks_by nat_list_cmp_total (λ (pair : Pair). pair.key)) (always_returns_same _ _ _ (λ a r f k. search rules)))
    apart

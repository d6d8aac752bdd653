-- The closure compares as the order does, which is total.
use Rattle.std.proofs.{Common.is_lt, Common.rules, lemmas.Fn.always_returns_same, lemmas.List.Sorted.ranks_by}
use Rattle.hlc_rows.specs.declared.row.Row.{Row}
use Rattle.hlc_witness.specs.Certificate.{row_cmp}
use Rattle.hlc_checkpoint.proofs.AscendLemmas.{row_cmp_total, sorted-ascend}
use Rattle.hlc_checkpoint.proofs.sorted.sort.Goals as goal

pub returns-clause-ascend : goal.returns-clause-ascend
returns-clause-ascend c =
    sorted-ascend c.args.rows.now.items c.sort_unstable_by.new.self.items c.requires
    c.sort_unstable_by.ensures.permutation
    (c.sort_unstable_by.ensures.sorted (λ x y. is_lt (row_cmp x y)) (ranks_by row_cmp_total (λ (row : Row). row))
    (always_returns_same _ _ _ (λ a r f k. search rules)))

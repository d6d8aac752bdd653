-- The walk begins at the position that divides the keys, or at the end.
use Rattle.std.proofs.Common.{◌≡◌, ◌∙◌, ◌++◌, ℕ, List, [], Some, arith, subst, sym, ap, reverse, take, option_copied}
use Rattle.std.specs.List.Sorted.{IsStrictlySortedBy}
use Rattle.hlc_table_index.specs.Entries.{entries_in, entries_before, entries_from, keys_in, key_cmp}
use Rattle.hlc_columns.specs.Answers.{is_from, leading}
use Rattle.hlc_columns.proofs.Ranged.{within, walked_below, walked_all, before_end, all_before}
use Rattle.hlc_columns.proofs.{WalkLemmas.Entry, answers.WalkBack.between.Goals.After-seek-at}
use Rattle.hlc_columns.proofs.answers.WalkBack.between.Goals as goal

-- the entries that a walk through these has left, in their order
abbrev left_of : List ℕ → List Entry → List Entry
left_of from es = reverse (leading (is_from from) (reverse es))

from_place : (c : After-seek-at) → left_of c.args.from.now
    (entries_before c.args.columns.now c.seek-at.result.0 c.seek-at.result.1)
    ≡ within c.args.from.now (option_copied c.args.to) (entries_in c.args.columns.now)
from_place c =
    let leaves = c.args.columns.now in
    let at = c.seek-at.result.0 in
    let slot = c.seek-at.result.1 in
    walked_below c.args.from.now (entries_before leaves at slot) (entries_from leaves at slot) c.in-Some.to.now
    (subst (λ es. IsStrictlySortedBy key_cmp (keys_in es)) c.seek-at.ensures.whole c.seek-at.ensures.ascend)
    c.seek-at.ensures.front c.seek-at.ensures.back
    ∙ ap (within c.args.from.now (Some c.in-Some.to.now)) (sym c.seek-at.ensures.whole)
    ∙ ap (λ to. within c.args.from.now (option_copied to) (entries_in leaves)) (sym c.in-Some.is)

pub returns-then-at-walk-clause-exact : goal.returns-then-at-walk-clause-exact
returns-then-at-walk-clause-exact c =
    let leaves = c.args.columns.now in
    let at = c.seek-at.result.0 in
    let slot = c.seek-at.result.1 in
    ap (λ leaf. left_of c.args.from.now (entries_in (take at leaves) ++ take slot leaf)) c.leaf.ensures
    ∙ from_place ((goal.at.returns-then-at-walk-clause-exact c).After-seek-at)

pub returns-else-at-walk-clause-exact : goal.returns-else-at-walk-clause-exact
returns-else-at-walk-clause-exact c =
    let leaves = c.args.columns.now in
    let count = c.leaves.ensures.count in
    let over = c.if-at-walk.false in
    ap (λ n. left_of c.args.from.now (entries_in (take n leaves) ++ [])) count ∙ ap (left_of c.args.from.now)
    (before_end leaves c.seek-at.result.0 c.seek-at.result.1 (omega (arith, count, over)))
    ∙ from_place ((goal.at.returns-else-at-walk-clause-exact c).After-seek-at)

pub returns-in_default-clause-exact : goal.returns-in_default-clause-exact
returns-in_default-clause-exact c =
    let leaves = c.args.columns.now in
    ap (λ n. left_of c.args.from.now (entries_in (take n leaves) ++ [])) c.leaves.ensures.count
    ∙ ap (left_of c.args.from.now) (all_before leaves)
    ∙ walked_all c.args.from.now (entries_in leaves) c.leaves.ensures.ascend
    ∙ ap (λ to. within c.args.from.now (option_copied to) (entries_in leaves)) (sym c.in_default.is)

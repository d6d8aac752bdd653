-- The walk begins at the position that divides the keys.
use Rattle.std.proofs.Common.{◌∙◌, subst, sym, ap, option_copied}
use Rattle.std.specs.List.Sorted.{IsStrictlySortedBy}
use Rattle.hlc_table_index.specs.Entries.{entries_before, entries_from, keys_in, key_cmp}
use Rattle.hlc_columns.proofs.Ranged.{within, walked}
use Rattle.hlc_columns.proofs.answers.Walk.between.Goals as goal

pub returns-clause-exact : goal.returns-clause-exact
returns-clause-exact c =
    let leaves = c.args.columns.now in
    let at = c.seek-at.result.0 in
    let slot = c.seek-at.result.1 in
    let to = option_copied c.args.to in
    c.from_slot.ensures.exact ∙ walked (entries_before leaves at slot) (entries_from leaves at slot) c.args.from.now to
    (subst (λ es. IsStrictlySortedBy key_cmp (keys_in es)) c.seek-at.ensures.whole c.seek-at.ensures.ascend)
    c.seek-at.ensures.front c.seek-at.ensures.back ∙ ap (within c.args.from.now to) (sym c.seek-at.ensures.whole)

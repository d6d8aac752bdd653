-- The walk begins at the first key that is not below this one, and leaves out the key itself.
use Rattle.std.proofs.Common.{◌≡◌, ◌∙◌, List, subst, sym, ap, true}
use Rattle.std.specs.List.Sorted.{IsStrictlySortedBy}
use Rattle.hlc_table_index.specs.Entries.{entries_in, entries_before, entries_from, keys_in, key_cmp}
use Rattle.hlc_columns.specs.Answers.{AreAbove, starts_at, entries_left}
use Rattle.hlc_columns.proofs.{WalkLemmas.Entry, Ranged.all_lead, above.walk_above.Goals.After-is_at}
use Rattle.hlc_columns.proofs.Listed.{above_from, skip, skipped}
use Rattle.hlc_columns.proofs.above.walk_above.Goals as goal

-- the columns that the walk has before the test
abbrev ahead : After-is_at → List Entry
ahead c = entries_from c.args.columns.now c.seek-at.result.0 c.seek-at.result.1

above : (c : After-is_at) → AreAbove (entries_in c.args.columns.now) c.args.key.now (skip c.is_at.result (ahead c))
above c =
    subst (λ b. AreAbove (entries_in c.args.columns.now) c.args.key.now (skip b (ahead c)))
    (sym (c.is_at.ensures.first ∙ ap (starts_at c.args.key.now) (c.from_slot-walk.ensures.exact ∙ all_lead (ahead c))))
    (subst (λ es. AreAbove es c.args.key.now (skip (starts_at c.args.key.now (ahead c)) (ahead c)))
    (sym c.seek-at.ensures.whole)
    (above_from (entries_before c.args.columns.now c.seek-at.result.0 c.seek-at.result.1) (ahead c) c.args.key.now
    c.seek-at.ensures.front c.seek-at.ensures.back
    (subst (λ es. IsStrictlySortedBy key_cmp (keys_in es)) c.seek-at.ensures.whole c.seek-at.ensures.ascend)))

pub returns-then-is_at-clause-above : goal.returns-then-is_at-clause-above
returns-then-is_at-clause-above c =
    let at = (goal.at.returns-then-is_at-clause-above c).After-is_at in
    let same : entries_left c.is_at.new.self ≡ ahead at =
    c.is_at.ensures.same ∙ c.from_slot-walk.ensures.exact ∙ all_lead (ahead at) in
    subst (AreAbove (entries_in c.args.columns.now) c.args.key.now)
    (sym (skipped (entries_left c.is_at.new.self) (entries_left c.next.new.self) _ c.next.ensures
    ∙ ap (skip true) same))
    (subst (λ b. AreAbove (entries_in c.args.columns.now) c.args.key.now (skip b (ahead at))) c.if-is_at.true
    (above at))

pub returns-else-is_at-clause-above : goal.returns-else-is_at-clause-above
returns-else-is_at-clause-above c =
    let at = (goal.at.returns-else-is_at-clause-above c).After-is_at in
    let same : entries_left c.is_at.new.self ≡ ahead at =
    c.is_at.ensures.same ∙ c.from_slot-walk.ensures.exact ∙ all_lead (ahead at) in
    subst (AreAbove (entries_in c.args.columns.now) c.args.key.now) (sym same)
    (subst (λ b. AreAbove (entries_in c.args.columns.now) c.args.key.now (skip b (ahead at))) c.if-is_at.false
    (above at))

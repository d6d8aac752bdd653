-- The entries divide at the slot that is found in the last leaf that begins at or below the wanted key.
use Rattle.std.proofs.Common.{◌≡◌, ◌≢◌, ◌-◌, ◌++◌, All, Less, subst}
use Rattle.hlc_table_index.specs.Entries.{key_cmp, entries_in, entries_before, entries_from}
use Rattle.hlc_table_index.proofs.Sought.{first_back, leaf_parted, leaf_front, leaf_back}
use Rattle.hlc_table_index.proofs.index.Index.seek.Goals as goal

pub returns-then-count-eq0-clause-back : goal.returns-then-count-eq0-clause-back
returns-then-count-eq0-clause-back g c =
    subst (λ ls. All (λ e. key_cmp e.0 c.args.key.now ≢ Less) (entries_from ls 0 0)) c.self.view_is
    (first_back c.self.inside.leaves c.args.key.now c.count_upto-count.result c.count_upto-count.ensures.filled
    c.count_upto-count.ensures.above c.if-count-eq0.true c.self.invariant)

pub returns-clause-whole : goal.returns-clause-whole
returns-clause-whole g c =
    subst (λ ls. entries_in ls ≡ entries_before ls (c.count_upto-count.result - 1) c.find-slot.result.0
    ++ entries_from ls (c.count_upto-count.result - 1) c.find-slot.result.0) c.self.view_is
    (leaf_parted c.self.inside.leaves c.count_upto-count.result c.find-slot.result.0 c.args.key.now c.leaf.result.now
    c.find-slot.result.1 c.count_upto-count.ensures.filled c.if-count-eq0.false c.count_upto-count.ensures.inside
    c.count_upto-count.ensures.upto c.count_upto-count.ensures.above c.leaf.ensures.value c.find-slot.ensures
    c.self.invariant)

pub returns-clause-front : goal.returns-clause-front
returns-clause-front g c =
    subst (λ ls. All (λ e. key_cmp e.0 c.args.key.now ≡ Less)
    (entries_before ls (c.count_upto-count.result - 1) c.find-slot.result.0)) c.self.view_is
    (leaf_front c.self.inside.leaves c.count_upto-count.result c.find-slot.result.0 c.args.key.now c.leaf.result.now
    c.find-slot.result.1 c.count_upto-count.ensures.filled c.if-count-eq0.false c.count_upto-count.ensures.inside
    c.count_upto-count.ensures.upto c.count_upto-count.ensures.above c.leaf.ensures.value c.find-slot.ensures
    c.self.invariant)

pub returns-clause-back : goal.returns-clause-back
returns-clause-back g c =
    subst (λ ls. All (λ e. key_cmp e.0 c.args.key.now ≢ Less)
    (entries_from ls (c.count_upto-count.result - 1) c.find-slot.result.0)) c.self.view_is
    (leaf_back c.self.inside.leaves c.count_upto-count.result c.find-slot.result.0 c.args.key.now c.leaf.result.now
    c.find-slot.result.1 c.count_upto-count.ensures.filled c.if-count-eq0.false c.count_upto-count.ensures.inside
    c.count_upto-count.ensures.upto c.count_upto-count.ensures.above c.leaf.ensures.value c.find-slot.ensures
    c.self.invariant)

-- The leaf that may have the key is the last one that begins at or below it.
use Rattle.std.proofs.Common.{◌-◌, ap, arith, subst, sym, inl}
use Rattle.hlc_table_index.specs.Entries.{entries_in, IsEntryAt, IsGap}
use Rattle.hlc_table_index.proofs.Places.{gap_first, gap_there, none_first, none_there}
use Rattle.hlc_table_index.proofs.Values.{there_slot}
use Rattle.hlc_table_index.proofs.index.Index.locate.Goals as goal

pub returns-then-count-eq0-clause-gap : goal.returns-then-count-eq0-clause-gap
returns-then-count-eq0-clause-gap g c =
    subst (λ l. IsGap l c.args.key.now 0 0) c.self.view_is
    (gap_first c.self.inside.leaves c.args.key.now c.count_upto-count.result c.count_upto-count.ensures.filled
    c.count_upto-count.ensures.above c.if-count-eq0.true)

pub returns-then-is_there-clause-found : goal.returns-then-is_there-clause-found
returns-then-is_there-clause-found g c =
    let slot = there_slot c.self.inside.leaves c.count_upto-count.result c.find-slot.result.0 c.args.key.now
    c.leaf.result.now
    c.find-slot.result.1 c.if-is_there.true c.leaf.ensures.value c.find-slot.ensures in
    let some = c.if-count-eq0.false in
    let le = c.count_upto-count.ensures.inside in
    subst (λ l. IsEntryAt l c.args.key.now (c.count_upto-count.result - 1) c.find-slot.result.0) c.self.view_is (
      omega (arith, some, le),
      slot.0,
      slot.1,
    )

pub returns-else-is_there-clause-gap : goal.returns-else-is_there-clause-gap
returns-else-is_there-clause-gap g c =
    let some = c.if-count-eq0.false in
    let le = c.count_upto-count.ensures.inside in
    let at = gap_there c.self.inside.leaves c.count_upto-count.result c.find-slot.result.0 c.args.key.now
    c.leaf.result.now c.find-slot.result.1 c.count_upto-count.ensures.filled c.if-count-eq0.false
    c.count_upto-count.ensures.inside c.count_upto-count.ensures.upto c.count_upto-count.ensures.above
    c.leaf.ensures.value c.find-slot.ensures c.if-is_there.false in
    subst (λ l. IsGap l c.args.key.now (c.count_upto-count.result - 1) c.find-slot.result.0) c.self.view_is (
      inl (omega (arith, some, le)),
      at.0,
      at.1,
    )

pub returns-then-count-eq0-clause-absent : goal.returns-then-count-eq0-clause-absent
returns-then-count-eq0-clause-absent g c =
    sym (none_first c.self.inside.leaves (entries_in c.args.self.now) c.args.key.now c.count_upto-count.result
    c.count_upto-count.ensures.filled c.count_upto-count.ensures.above c.if-count-eq0.true c.self.invariant
    (ap entries_in c.self.view_is))

pub returns-else-is_there-clause-absent : goal.returns-else-is_there-clause-absent
returns-else-is_there-clause-absent g c =
    sym (none_there c.self.inside.leaves (entries_in c.args.self.now) c.count_upto-count.result c.find-slot.result.0
    c.args.key.now c.leaf.result.now
    c.find-slot.result.1 c.count_upto-count.ensures.filled c.if-count-eq0.false c.count_upto-count.ensures.inside
    c.count_upto-count.ensures.upto c.count_upto-count.ensures.above c.leaf.ensures.value c.find-slot.ensures
    c.if-is_there.false
    c.self.invariant (ap entries_in c.self.view_is))

-- The leaf that may have the key is the last one that begins at or below it.
use Rattle.std.proofs.Common.{ap}
use Rattle.hlc_table_index.specs.Entries.{entries_in}
use Rattle.hlc_table_index.proofs.Places.{none_first, none_there, some_there}
use Rattle.hlc_table_index.proofs.index.Index.get.Goals as goal

pub returns-then-count-eq0-clause-value : goal.returns-then-count-eq0-clause-value
returns-then-count-eq0-clause-value g c =
    none_first c.self.inside.leaves (entries_in c.args.self.now) c.args.key.now c.count_upto-count.result
    c.count_upto-count.ensures.filled
    c.count_upto-count.ensures.above c.if-count-eq0.true c.self.invariant (ap entries_in c.self.view_is)

pub returns-then-is_there-clause-value : goal.returns-then-is_there-clause-value
returns-then-is_there-clause-value g c =
    some_there c.self.inside.leaves (entries_in c.args.self.now) c.count_upto-count.result c.find-slot.result.0
    c.args.key.now
    c.leaf-leaf.result.now
    c.find-slot.result.1 c.value.result.now c.count_upto-count.ensures.filled c.if-count-eq0.false
    c.count_upto-count.ensures.inside
    c.count_upto-count.ensures.upto c.count_upto-count.ensures.above c.leaf-leaf.ensures.value c.find-slot.ensures
    c.if-is_there.true
    c.value.ensures c.self.invariant (ap entries_in c.self.view_is)

pub returns-else-is_there-clause-value : goal.returns-else-is_there-clause-value
returns-else-is_there-clause-value g c =
    none_there c.self.inside.leaves (entries_in c.args.self.now) c.count_upto-count.result c.find-slot.result.0
    c.args.key.now
    c.leaf-leaf.result.now
    c.find-slot.result.1 c.count_upto-count.ensures.filled c.if-count-eq0.false c.count_upto-count.ensures.inside
    c.count_upto-count.ensures.upto c.count_upto-count.ensures.above c.leaf-leaf.ensures.value c.find-slot.ensures
    c.if-is_there.false
    c.self.invariant (ap entries_in c.self.view_is)

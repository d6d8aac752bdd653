-- One more version is measured; and at the end none is left.
use Rattle.hlc_table_column.specs.Versions.{version_read}
use Rattle.hlc_range_calls.proofs.Rowing.{measured_more}
use Rattle.hlc_range_calls.proofs.versions.measure.Goals as goal

pub loop-value-preserved : goal.loop-value-preserved
loop-value-preserved c =
    measured_more c.args.versions c.loop-value.value-iterator c.next.new.self
    (version_read (c.in-Some.field-0-0, c.in-Some.field-0-1, c.in-Some.value)) c.loop-value.len c.loop-value.count
    c.version_len.result c.saturating_add-len.result c.saturating_add-count.result c.loop-value.invariant
    c.in-Some.ensures.steps c.version_len.ensures c.saturating_add-len.ensures c.saturating_add-count.ensures

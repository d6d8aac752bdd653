-- One more version is put after those before it; and at the end none is left.
use Rattle.hlc_table_column.specs.Versions.{version_read}
use Rattle.hlc_range_calls.{specs.Versions.version_bytes, proofs.ByteLemmas.put_next}
use Rattle.hlc_range_calls.proofs.versions.put_versions.Goals as goal

pub loop-stamp-preserved : goal.loop-stamp-preserved
loop-stamp-preserved c =
    put_next version_bytes c.args.versions c.loop-stamp.stamp-iterator c.next.new.self
    (version_read (c.in-Some.stamp, c.in-Some.node, c.in-Some.value))
    c.loop-stamp.invariant.0 c.args.out.now c.loop-stamp.out c.put_version-at.new.out c.loop-stamp.at
    c.put_version-at.result c.in-Some.ensures.steps c.loop-stamp.invariant.1 c.loop-stamp.invariant.2
    c.loop-stamp.invariant.3 c.put_version-at.ensures.end c.put_version-at.ensures.put c.requires

-- The pairs of the view's range are those of the snapshot.
use Rattle.std.proofs.Common.{rules}
use Rattle.hlc_calls.proofs.Digests.{digested_at}
use Rattle.hlc_calls.proofs.digest.digest.Goals as goal

pub returns : goal.returns
returns c = λ past h.
    let views = c.in-Some.ensures past h in
    digested_at c.in-Some.view.rows _ _ c.in-Some.view.stamp c.args.from.now c.args.to.now _ c.range.result
    c.digest_of.result c.fill.new.len c.args.out.now c.fill.new.out views.0 views.1 c.end.ensures c.range.ensures
    c.digest_of.ensures (search rules) c.fill.ensures.copied

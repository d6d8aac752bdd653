-- One more is written.
use Rattle.std.{proofs.Common.length, specs.Int.w16, specs.Int.to_be_bytes}
use Rattle.hlc_body.{specs.Spelling.link_bytes, proofs.ListLemmas.list_on}
use Rattle.hlc_body.proofs.writing.put_links.Goals as goal

pub loop-link-preserved : goal.loop-link-preserved
loop-link-preserved c =
    list_on link_bytes c.args.links.now c.loop-link.link-index c.link-item.result c.args.out.now.items
    (to_be_bytes w16 (length c.args.links.now)) c.loop-link.out.items c.put_link.new.out.items c.loop-link-test.true
    c.link-item.is c.loop-link.invariant c.in_ok-put_link.ensures

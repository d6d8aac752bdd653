-- One more item was taken and passed to the store.
use Rattle.std.proofs.Common.{[], ◌∷◌, ◌∙◌}
use Rattle.hlc_workers.proofs.Works.{paid_all, passed_all, took_more, raised_more}
use Rattle.hlc_workers.proofs.feeding.feed.Goals as goal

pub loop-preserved : goal.loop-preserved
loop-preserved g c =
    let w = rw c.in_default.is at c.feed_one.ensures.fed in
    let v = c.loop.invariant in
    let had = c.loop.session.work.receipts.items in
    let now = c.feed_one.new.self.work.receipts.items in
    let more = w.receipt ∷ [] in
    record {
      gate = c.feed_one.ensures.gate ∙ v.gate;
      paid = paid_all _ c.args.caller c.loop.session.work c.feed_one.new.self.work more w.called v.paid;
      passed = passed_all g.G.Gate.may_answer _ _ c.loop.session.work c.feed_one.new.self.work more v.gate w.called
          v.passed;
      link = c.feed_one.ensures.link ∙ v.link;
      took = took_more c.args.link.taken c.loop.link.taken c.feed_one.new.link.taken had now w.receipt w.item
          v.took w.called.receipts w.asks w.took;
      raised = raised_more c.args.feeder c.loop.feeder c.feed_one.new.feeder had now w.receipt
          v.raised w.called.receipts w.raised;
    }

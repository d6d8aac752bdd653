-- The end of the link and what was left are in the result of the worker.
use Rattle.hlc_storm.proofs.working.feed_link.Goals as goal

pub returns-clause-items : goal.returns-clause-items
returns-clause-items g c =
    (c.feed-caller.result.link, c.feed-caller.result.left, c.feed-caller.ensures.items, c.feed-caller.ensures.done)

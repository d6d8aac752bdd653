-- The invariant of what is made: an empty trail is a legal history, and a new core represents the past in which nothing
-- took place.
use Rattle.std.proofs.Common.{[], sym}
use Rattle.hlc_server.proofs.Histories.{at_start, audited_first}
use Rattle.hlc_server.proofs.guarded.Guarded.new.Goals as goal

pub invariant_of-guarded : goal.invariant_of-guarded
invariant_of-guarded g c = (
  sym c.open-book.ensures.total,
  audited_first c.in_ok-core.core c.args.nodes c.args.audit c.new_trail.result c.open-book.result.0.total
      c.in_ok-core.ensures.1 c.new_trail.ensures c.open-book.ensures.total,
  record {
    history = [];
    represents = at_start c.in_ok-core.core c.args.nodes c.in_ok-core.ensures.1;
    counted = sym c.open-book.ensures.total;
  },
)

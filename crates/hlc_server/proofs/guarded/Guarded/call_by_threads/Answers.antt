-- The invariant is true again after a call: the call's entry is the last event of the history, and book and number
-- count it; with a trail or without.
use Rattle.std.proofs.Common.{◌≡◌, ◌+◌, arith}
use Rattle.hlc_server.{specs.Trails.entries_of, proofs.Histories.audited_more, proofs.Histories.history_more}
use Rattle.hlc_server.proofs.guarded.Guarded.call_by_threads.Goals as goal

pub invariant_of-self : goal.invariant_of-self
invariant_of-self g c =
    let total : c.count_call.new.book.total ≡ c.self.inside.book.total + 1 =
    c.count_call.ensures.total in (
      omega (arith, total, c.count_call.ensures.calls, c.self.invariant.0),
      audited_more c.self.inside.core c.plan_call.new.core (entries_of c.self.inside.trail)
          (entries_of c.plan_call.new.trail)
          c.caller.inside.number c.args.event c.in-Ok.reply c.self.inside.book.total
          c.count_call.new.book.total
          c.self.invariant.1 c.in-Ok.ensures.trail c.in-Ok.ensures.made.step total,
      history_more c.self.inside.core c.plan_call.new.core c.args.event c.in-Ok.reply c.self.inside.book.total
          c.count_call.new.book.total c.self.invariant.2 c.in-Ok.ensures.made.step total,
    )

-- A refusal is a step, and never that memory runs out.
use Rattle.hlc_events.specs.declared.event.CoreEvent.TheVariants.{Accept, OpenAt, JoinAt}
use Rattle.hlc_core.proofs.StepLemmas.{refused_moves, item_takes_none, join_takes_none, open_takes_none}
use Rattle.hlc_core.proofs.store.Core.make.Goals as goal

pub returns-in-Err-clause-past : goal.returns-in-Err-clause-past
returns-in-Err-clause-past c = λ past h.
    rw (c.in-Accept.is)
    (refused_moves past c.args.self.now c.accept_copy.new.self (Accept c.in-Accept.item) c.in-Err.fault
    c.refusal_reply.result c.in-Err.ensures.unchanged h
    (item_takes_none past c.in-Accept.item)
    (c.in-Err.ensures.represents past h) c.refusal_reply.ensures.ok c.refusal_reply.ensures.err)

pub returns-in-Err-open-clause-past : goal.returns-in-Err-open-clause-past
returns-in-Err-open-clause-past c = λ past h.
    rw (c.in-OpenAt.is)
    (refused_moves past c.args.self.now c.open.new.self (OpenAt c.in-OpenAt.stamp) c.in-Err-open.fault
    c.refusal_reply-in-Err-open.result c.in-Err-open.ensures.unchanged h
    (open_takes_none past c.in-OpenAt.stamp)
    (c.in-Err-open.ensures.represents past h) c.refusal_reply-in-Err-open.ensures.ok
    c.refusal_reply-in-Err-open.ensures.err)

pub returns-in-Err-join_at-clause-past : goal.returns-in-Err-join_at-clause-past
returns-in-Err-join_at-clause-past c = λ past h.
    rw (c.in-JoinAt.is)
    (refused_moves past c.args.self.now c.join_at.new.self (JoinAt c.in-JoinAt.start) c.in-Err-join_at.fault
    c.refusal_reply-in-Err-join_at.result c.in-Err-join_at.ensures.unchanged h
    (join_takes_none past c.in-JoinAt.start)
    (c.in-Err-join_at.ensures.represents past h) c.refusal_reply-in-Err-join_at.ensures.ok
    c.refusal_reply-in-Err-join_at.ensures.err)

-- The world is faithful before the first event, and step by step it stays so.
use Rattle.std.proofs.Common.{◌≡◌, ◌∙◌, subst, ◌++◌, sym, ap, length, length-append, ◌+◌, append_assoc, arith, rules}
use Rattle.hlc_world.specs.{Schedule.after, Headline.IsFaithful}
use Rattle.std.proofs.lemmas.Grind.{common_steps}
use Rattle.hlc_world.proofs.Faithful.{faithful, after-push}
use Rattle.hlc_world.proofs.world.World.run.Goals as goal

pub loop-event-init : goal.loop-event-init
loop-event-init c = record {
  counted = ap length c.in-Ok.ensures.items;
  all' = search rules;
  room = search rules;
  represents = λ nodes s h. h;
  faithful = λ nodes. faithful nodes c.args.self.now;
}

pub loop-event-preserved : goal.loop-event-preserved
loop-event-preserved c = record {
  counted =
      rw (c.push_reserved.ensures.items, length-append, length-append) (ap (λ n. n + 1) c.loop-event.invariant.counted);
  all' = rw append_assoc
      (ap (λ xs. c.loop-event.yielded ++ xs) (sym c.in-Some.ensures.steps.0) ∙ c.loop-event.invariant.all');
  room = c.push_reserved.ensures.capacity ∙ c.loop-event.invariant.room;
  represents = λ nodes s h.
      rw (
        c.push_reserved.ensures.items,
        after-push c.loop-event.yielded c.loop-event.replies.items s c.in-Some.event c.step-reply.result
            (sym c.loop-event.invariant.counted),
      )
      (c.step-reply.ensures.represents nodes _ (c.loop-event.invariant.represents nodes s h));
  faithful = λ nodes s h.
      rw (
        c.push_reserved.ensures.items,
        after-push c.loop-event.yielded c.loop-event.replies.items s c.in-Some.event c.step-reply.result
            (sym c.loop-event.invariant.counted),
      )
      (c.step-reply.ensures.faithful nodes _ (c.loop-event.invariant.represents nodes s h));
}

pub returns-clause-faithful : goal.returns-clause-faithful
returns-clause-faithful c = λ nodes s h.
    let end : c.loop-event.yielded ≡ c.args.events.items = grind (arith, common_steps) in
    subst (λ events. IsFaithful nodes (after events c.loop-event.replies.items s) c.loop-event.self.core.rows) end
    (c.loop-event.invariant.faithful nodes s h)

-- There are as many replies as events so far, and the world represents the schedule with them, and is faithful to it.
use Rattle.std.proofs.Common.{◌≡◌, ℕ, List, ◌++◌, length, vec_capacity}
use Rattle.hlc_world.specs.{declared.reply.Reply.Reply, WorldView.Represents, Schedule.after, Headline.IsFaithful}
use Rattle.hlc_world_event.specs.Events.{Event}
use Rattle.std.specs.Vec.Iter.{into_iter_items}
use Rattle.hlc_world.proofs.world.World.run.Given as goal

abbrev pub invariant-loop-event : goal.invariant-loop-event
invariant-loop-event l = record {
  counted : length l.replies.items ≡ length l.yielded;
  all' : l.yielded ++ into_iter_items l.event-iterator ≡ l.fn.events.items;
  room : vec_capacity l.replies ≡ length l.fn.events.items;
  represents : (nodes : ℕ) (s : List (Event × Reply)) → Represents nodes l.initial.self s
      → Represents nodes l.self (after l.yielded l.replies.items s);
  faithful : (nodes : ℕ) (s : List (Event × Reply)) → Represents nodes l.initial.self s
      → IsFaithful nodes (after l.yielded l.replies.items s) l.self.core.rows;
}

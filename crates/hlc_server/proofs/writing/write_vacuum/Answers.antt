-- The entry has the reply, which was copied beforehand, and the event had its step.
use Rattle.std.proofs.Common.{List, [], ◌∷◌, ◌++◌, Some, ap, sym, ◌∙◌}
use Rattle.hlc_events.specs.declared.event.CoreEvent.{CoreEvent}
use Rattle.hlc_core.specs.declared.reply.CoreReply.{CoreReply}
use Rattle.hlc_server.specs.{declared.entry.Entry.Entry, Trails.entry}
use Rattle.hlc_server.proofs.writing.write_vacuum.Goals as goal

pub returns : goal.returns
returns c = record {
  made = record {
    form = c.finish.ensures.form c.args.event.now c.requires;
    step = λ nodes history represents. c.finish.ensures.step nodes c.args.event.now history c.requires represents;
  };
  trail =
      let before = c.args.trail.now.entries.items in
      ap (λ (trail : List Entry). Some trail)
      (c.push_reserved.ensures.items
      ∙ ap (λ (trail : List Entry). trail ++ entry c.args.caller c.in_ok-written.written c.in_ok-reply.reply ∷ [])
      c.in_ok-written.ensures.entries
      ∙ ap (λ (event : CoreEvent). before ++ entry c.args.caller event c.in_ok-reply.reply ∷ [])
      c.in_ok-written.ensures.copy
      ∙ ap (λ (reply : CoreReply). before ++ entry c.args.caller c.args.event.now reply ∷ [])
      (c.in_ok-reply.ensures ∙ sym c.finish.ensures.reply));
}

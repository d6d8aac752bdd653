-- The event is a read of the word, whose answer the world returns.
use Rattle.std.proofs.Common.{◌≡◌, List, ◌∷◌, refl, ap, sym, ◌∙◌, subst, inl}
use Rattle.hlc_world_event.specs.{Events.Event, declared.event.Event.TheVariants.Read}
use Rattle.hlc_world.specs.{declared.reply.Reply.Reply, WorldView.Represents}
use Rattle.hlc_script.specs.Run.{AnswersLine}
use Rattle.hlc_script.proofs.run.answer_line.Goals as goal

pub returns-in-Some : goal.returns-in-Some
returns-in-Some g c =
    let (reply, represents, prints) = c.answer_read.ensures in
    let is : c.args.event ≡ Read c.in-Read.id c.in-Some.word.now =
    c.in-Read.is ∙ ap (λ key. Read c.in-Read.id key) (sym c.in-Some.ensures.1) in (
      reply,
      λ nodes s h. subst (λ (event : Event). (after : List (Event × Reply)) × AnswersLine nodes s event reply after
          × Represents nodes c.args.world.now after) (sym is) (
            (Read c.in-Read.id c.in-Some.word.now, reply) ∷ s,
            inl ((represents nodes s h).legal.0, refl),
            represents nodes s h,
          ),
      prints,
    )

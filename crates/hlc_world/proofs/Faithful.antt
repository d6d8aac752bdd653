-- What is promised about a whole schedule follows where the world represents it: the core represents the store's
-- history, which is legal, so the core is faithful to it; each moment of the schedule is one of that history; and each
-- moment of a legal schedule is legal, so what can be read there is closed.
use Rattle.std.proofs.lemmas.Grind.{common_steps}
use Rattle.std.proofs.Common.{ℕ, List, [], ◌∷◌, ◌++◌, Some, None, Option, refl, ap, sym, subst, ◌≡◌, length, arith}
use Rattle.hlc_events.specs.declared.event.CoreEvent.{CoreEvent}
use Rattle.hlc_core.specs.{declared.reply.CoreReply.CoreReply, History.RepresentsHistory}
use Rattle.hlc_core.specs.Headline.{IsMoment as IsStoreMoment}
use Rattle.hlc_core.proofs.FaithfulLemmas.{histories_are_faithful}
use Rattle.hlc_world_event.specs.Events.{Event}
use Rattle.hlc_world.specs.{declared.reply.Reply.Reply, Expected.IsLegal, Schedule.after}
use Rattle.hlc_world.specs.Store.{share, with_entry, store_history}
use Rattle.hlc_world.specs.WorldView.{WorldView, Represents}
use Rattle.hlc_world.specs.Headline.{MomentsAreReported, ReadsAreClosed, IsFaithful}
use Rattle.hlc_world.proofs.{Histories.history-legal, Histories.left-by-none, Times.closed}

moment-stays : (o : Option (CoreEvent × CoreReply)) (h before : List (CoreEvent × CoreReply)) → IsStoreMoment h before
    → IsStoreMoment (with_entry o h) before
moment-stays None h before moment = moment
moment-stays (Some entry) h before moment =
    record { later = entry ∷ moment.later; order = ap (λ x. entry ∷ x) moment.order }

moment-returned : (later before : List (Event × Reply))
    → IsStoreMoment (store_history (later ++ before)) (store_history before)
moment-returned [] before = record { later = []; order = refl }
moment-returned (entry ∷ later) before =
    moment-stays (share (later ++ before) entry.0 entry.1) (store_history (later ++ before)) (store_history before)
    (moment-returned later before)

-- each moment of a schedule is one of the store's history
moments-returned : (s : List (Event × Reply)) → MomentsAreReported s
moments-returned s =
    λ before moment. subst (λ x. IsStoreMoment (store_history x) (store_history before)) (sym moment.order)
    (moment-returned moment.later before)

before-legal : (nodes : ℕ) (later before : List (Event × Reply)) → IsLegal nodes (later ++ before)
    → IsLegal nodes before
before-legal nodes [] before legal = legal
before-legal nodes (entry ∷ later) before legal = before-legal nodes later before legal.1

-- each moment of a legal schedule is legal
reads-closed : (nodes : ℕ) (s : List (Event × Reply)) → IsLegal nodes s → ReadsAreClosed nodes s
reads-closed nodes s legal =
    λ before moment. closed nodes before
    (before-legal nodes moment.later before (subst (λ x. IsLegal nodes x) moment.order legal))

-- the core represents the store's history
represents : (nodes : ℕ) (state : WorldView) (s : List (Event × Reply)) → Represents nodes state s
    → RepresentsHistory nodes state.core (store_history s)
represents nodes state s h = grind (arith, common_steps, history-legal, left-by-none)

-- a world is faithful to each schedule that it represents
pub faithful : (nodes : ℕ) (state : WorldView) (s : List (Event × Reply)) → Represents nodes state s
    → IsFaithful nodes s state.core.rows
faithful nodes state s h = record {
  store = histories_are_faithful nodes state.core (store_history s) (represents nodes state s h);
  moments = moments-returned s;
  closed = reads-closed nodes s h.legal;
}

-- one more event of a run comes after all earlier ones
pub after-push : (events : List Event) (replies : List Reply) (s : List (Event × Reply)) (event : Event) (reply : Reply)
    → length events ≡ length replies
    → after (events ++ event ∷ []) (replies ++ reply ∷ []) s ≡ (event, reply) ∷ after events replies s
after-push [] [] s event reply h = refl
after-push [] (r ∷ replies) s event reply h = absurd (omega arith)
after-push (e ∷ events) [] s event reply h = absurd (omega arith)
after-push (e ∷ events) (r ∷ replies) s event reply h = after-push events replies ((e, r) ∷ s) event reply (omega arith)

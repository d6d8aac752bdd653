-- A trail with one more call is the history with that call as its last event, by induction on the trail. So one more
-- call keeps the trail legal, and the core still represents it.
use Rattle.std.proofs.Common.{Bool, true, false, ◌≡◌, ℕ, ◌+◌, List, [], ◌∷◌, ◌++◌, length, Option, Some, None, refl, ap}
use Rattle.std.proofs.Common.{sym, ◌∙◌, subst, arith, length-append}
use Rattle.std.specs.{Prelude.if◌then◌else◌, Option.ForSome}
use Rattle.hlc_events.specs.declared.event.CoreEvent.{CoreEvent}
use Rattle.hlc_core.specs.{declared.reply.CoreReply.CoreReply, StoreView.StoreView, StoreView.Represents}
use Rattle.hlc_core.specs.Past.{Step, Started, Began, Took, Opened, Closed, Vacuumed, PartVacuumed, Joined}
use Rattle.hlc_core.specs.Past.{initial_nodes, IsLegal}
use Rattle.hlc_core.specs.History.{step_of, with_step, past_of, RepresentsHistory, IsStep}
use Rattle.hlc_server.specs.declared.{entry.Entry.Entry, trail.Trail.Trail}
use Rattle.hlc_server.specs.Trails.{history_after, history_of, IsAudited, HasHistory, entry, with_entry, entries_of}

history_after-push : (history : List (CoreEvent × CoreReply)) (trail : List Entry) (e : Entry)
    → history_after history (trail ++ e ∷ []) ≡ (e.event, e.reply) ∷ history_after history trail
history_after-push history [] e = refl
history_after-push history (x ∷ trail) e = history_after-push ((x.event, x.reply) ∷ history) trail e

-- the last entry is the last event
pub history_of-push : (trail : List Entry) (e : Entry)
    → history_of (trail ++ e ∷ []) ≡ (e.event, e.reply) ∷ history_of trail
history_of-push trail e = history_after-push [] trail e

-- no event is a start
step-starts_none : (step : Option Step) (past : List Step) → IsLegal (with_step step past) → (past ≡ [] → ⊥)
    → IsLegal past × (initial_nodes (with_step step past) ≡ initial_nodes past)
step-starts_none None past legal some = (legal, refl)
step-starts_none (Some (Started nodes)) past legal some = absurd (some legal.0)
step-starts_none (Some (Began kept)) past legal some = absurd (some legal.0)
step-starts_none (Some (Took item)) past legal some = (legal.1, refl)
step-starts_none (Some (Opened stamp)) past legal some = (legal.1, refl)
step-starts_none (Some (Closed id)) past legal some = (legal.1, refl)
step-starts_none (Some (Vacuumed at)) past legal some = (legal.1, refl)
step-starts_none (Some (PartVacuumed at dropped)) past legal some = (legal.1, refl)
step-starts_none (Some (Joined node start)) past legal some = (legal.3, refl)

step-some : (step : Option Step) (past : List Step) → (past ≡ [] → ⊥) → with_step step past ≡ [] → ⊥
step-some None past some none = some none
step-some (Some step) past some none = cc

past-some : (nodes : ℕ) (history : List (CoreEvent × CoreReply)) → past_of nodes history ≡ [] → ⊥
past-some nodes [] none = cc
past-some nodes (e ∷ history) none = step-some (step_of e.0 e.1) (past_of nodes history) (past-some nodes history) none

past-starts : (nodes : ℕ) (history : List (CoreEvent × CoreReply)) → IsLegal (past_of nodes history)
    → initial_nodes (past_of nodes history) ≡ nodes
past-starts nodes [] legal = refl
past-starts nodes (e ∷ history) legal =
    let one = step-starts_none (step_of e.0 e.1) (past_of nodes history) legal (past-some nodes history) in
    one.1 ∙ past-starts nodes history one.0

-- so a history that a core represents starts with as many nodes as the core did
of_its_own : (nodes : ℕ) (core : StoreView) (history : List (CoreEvent × CoreReply))
    → RepresentsHistory nodes core history → RepresentsHistory core.initial_nodes core history
of_its_own nodes core history h =
    subst (λ n. RepresentsHistory n core history)
    (sym (h.core.initial_nodes ∙ past-starts nodes history h.core.legal)) h

-- a new core represents the history in which nothing took place
pub at_start : (core : StoreView) (nodes : ℕ) → Represents core (Started nodes ∷ [])
    → RepresentsHistory core.initial_nodes core []
at_start core nodes h = of_its_own nodes core [] (record { legal = tt; core = h; left = tt })

-- One more call keeps the trail legal, the core representing it, and the count right.
pub audited_more : (old new : StoreView) (trail trail' : Option (List Entry)) (caller : ℕ) (event : CoreEvent)
    (reply : CoreReply)
    (total total' : ℕ)
    → ForSome trail (λ t. IsAudited old t total) → trail' ≡ with_entry trail (entry caller event reply)
    → ((nodes : ℕ) (history : List (CoreEvent × CoreReply)) → RepresentsHistory nodes old history
    → IsStep nodes old new event history reply)
    → total' ≡ total + 1 → ForSome trail' (λ t. IsAudited new t total')
audited_more old new None trail' caller event reply total total' audited is represents more =
    λ t some. absurd (let e : Some t ≡ None = sym some ∙ is in cc)
audited_more old new (Some before) trail' caller event reply total total' audited is represents more = λ t some.
    let same : t ≡ before ++ entry caller event reply ∷ [] =
    (let both : Some t ≡ Some (before ++ entry caller event reply ∷ []) = sym some ∙ is in cc) in
    let was = audited before refl in
    let goes = (represents old.initial_nodes (history_of before) was.represents).1 in
    record {
      represents = subst (λ h. RepresentsHistory new.initial_nodes new h)
          (sym (ap history_of same ∙ history_of-push before (entry caller event reply)))
          (of_its_own old.initial_nodes new ((event, reply) ∷ history_of before) goes);
      counted = ap length same ∙ omega (arith, length-append before (entry caller event reply ∷ []), was.counted, more);
    }

-- One more call, with a trail or without: the history that the core represents has the call as its last event.
pub history_more : (old new : StoreView) (event : CoreEvent) (reply : CoreReply) (total total' : ℕ)
    → HasHistory old total
    → ((nodes : ℕ) (history : List (CoreEvent × CoreReply)) → RepresentsHistory nodes old history
    → IsStep nodes old new event history reply)
    → total' ≡ total + 1 → HasHistory new total'
history_more old new event reply total total' had represents more =
    let n = had.counted in
    record {
      history = (event, reply) ∷ had.history;
      represents = of_its_own old.initial_nodes new ((event, reply) ∷ had.history)
          (represents old.initial_nodes had.history had.represents).1;
      counted = omega (arith, n, more);
    }

cond-empty : (audit : Bool) (t : List Entry) → Some t ≡ (if audit then Some [] else None) → t ≡ []
cond-empty true t are = cc
cond-empty false t are = absurd (cc)

-- a new core represents the empty trail
pub audited_first : (core : StoreView) (nodes : ℕ) (audit : Bool) (trail : Option Trail) (total : ℕ)
    → Represents core (Started nodes ∷ []) → entries_of trail ≡ (if audit then Some [] else None) → total ≡ 0
    → ForSome (entries_of trail) (λ t. IsAudited core t total)
audited_first core nodes audit trail total represents is none = λ t some. first t (sym some ∙ is)
  where
    first : (t : List Entry) → Some t ≡ (if audit then Some [] else None) → IsAudited core t total
    first t are =
        let empty : t ≡ [] = cond-empty audit t are in
        subst (λ l. IsAudited core l total) (sym empty)
        (record { represents = at_start core nodes represents; counted = sym none })

-- Each moment of a legal history is legal, whatever past it began with.
use Rattle.std.proofs.Common.{ℕ, List, [], ◌∷◌, ◌≡◌, ap, refl, subst}
use Rattle.hlc_core.specs.{Past.Started, declared.reply.CoreReply.CoreReply, StoreView.StoreView, StoreView.Represents}
use Rattle.hlc_events.specs.declared.event.CoreEvent.{CoreEvent}
use Rattle.hlc_core.specs.History.{past_of, step_of, with_step, IsLegalHistory, IsExpected, IsLeft, LeavesPart}
use Rattle.hlc_core.specs.From.{past_from, IsLegalFrom, IsLeftFrom}
use Rattle.hlc_replicas.proofs.FaithfulFrom.{histories_are_faithful}
use Rattle.hlc_core.proofs.StartingLemmas.{begins}
use Rattle.hlc_replicas.proofs.states.histories_from_states_are_faithful.Goals as goal

-- what took place since the nodes started
same-past : (nodes : ℕ) (h : List (CoreEvent × CoreReply)) → past_of nodes h ≡ past_from (Started nodes ∷ []) h
same-past nodes [] = refl
same-past nodes (entry ∷ h) = ap (with_step (step_of entry.0 entry.1)) (same-past nodes h)

same-legal : (nodes : ℕ) (h : List (CoreEvent × CoreReply)) → IsLegalHistory nodes h
    → IsLegalFrom (Started nodes ∷ []) h
same-legal nodes [] legal = tt
same-legal nodes (entry ∷ h) legal =
    (subst (λ past. IsExpected past entry.0 entry.1) (same-past nodes h) legal.0, same-legal nodes h legal.1)

same-left : (nodes : ℕ) (h : List (CoreEvent × CoreReply)) (kept : StoreView) → IsLeft nodes h kept.rows
    → IsLeftFrom (Started nodes ∷ []) h kept.rows
same-left nodes [] kept left = left
same-left nodes (entry ∷ h) kept left =
    subst (λ past. LeavesPart past entry.0 entry.1 kept.rows) (same-past nodes h) left

pub returns-clause-faithful : goal.returns-clause-faithful
returns-clause-faithful c = histories_are_faithful

pub returns-clause-begins : goal.returns-clause-begins
returns-clause-begins c = λ kept is. record { legal = tt; core = begins kept is; left = tt }

pub returns-clause-started : goal.returns-clause-started
returns-clause-started c = λ nodes kept h represents. record {
  legal = same-legal nodes h represents.legal;
  core = subst (λ past. Represents kept past) (same-past nodes h) represents.core;
  left = same-left nodes h kept represents.left;
}

pub returns-clause-goes_on : goal.returns-clause-goes_on
returns-clause-goes_on c = λ start old new event reply history h move.
    record { legal = (move.0, h.legal); core = move.1; left = move.2 }

-- The run after each of the first stores took a step: the past of each, and one store more.
use Rattle.std.proofs.Common.{◌≡◌, ℕ, zero, suc, ◌+◌, ◌<◌, ◌≤◌, List, ◌∷◌, None, Option, refl, ap, sym, ◌∙◌, subst, inl}
use Rattle.std.proofs.Common.{inr, arith, add-one}
use Rattle.std.proofs.lemmas.Bool.{cases_eq}
use Rattle.hlc_events.specs.declared.fault.CoreFault.{CoreFault}
use Rattle.hlc_core.specs.Past.{Step}
use Rattle.hlc_ranges.specs.Run.{Layout, Turn, Stepped, past_of}
use Rattle.hlc_ranges.proofs.TurnLemmas.{past-same, past-other}
use Rattle.hlc_routing.specs.{Ranges.RangesView, Ranges.Represents, All.each_stepped, All.HaveStepped}

-- the others' pasts stay
pub past-after : (layout : Layout) (step : ℕ → Step) (n s : ℕ) (run : List Turn) → n ≤ s
    → past_of layout s (each_stepped step n run) ≡ past_of layout s run
past-after layout step zero s run above = refl
past-after layout step (suc n) s run above =
    past-other layout s n (step n) (each_stepped step n run) (λ e. absurd (omega (arith, e, above)))
    ∙ past-after layout step n s run (omega arith)

-- each of the first stores' pasts has its step
pub past-within : (layout : Layout) (step : ℕ → Step) (n s : ℕ) (run : List Turn) → s < n
    → past_of layout s (each_stepped step n run) ≡ step s ∷ past_of layout s run
past-within layout step zero s run below = absurd (omega arith)
past-within layout step (suc n) s run below =
    elim (cases_eq n s) [
      | inl e ↦ past-same layout s n (step n) (each_stepped step n run) e
          ∙ ap (λ k. step k ∷ past_of layout s (each_stepped step n run)) e
          ∙ ap (λ p. step s ∷ p) (past-after layout step n s run (omega (arith, e)))
      | inr e ↦ past-other layout s n (step n) (each_stepped step n run) e
          ∙ past-within layout step n s run (omega (arith, e, below))
    ]

pub each-next : (step : ℕ → Step) (n : ℕ) (run : List Turn)
    → each_stepped step (n + 1) run ≡ Stepped n (step n) ∷ each_stepped step n run
each-next step n run =
    subst (λ k. each_stepped step k run ≡ Stepped n (step n) ∷ each_stepped step n run) (sym (add-one n)) refl

-- steps that are alike make one run
pub each-same : (f g : ℕ → Step) (n : ℕ) (run : List Turn) → ((s : ℕ) → s < n → f s ≡ g s)
    → each_stepped f n run ≡ each_stepped g n run
each-same f g zero run same = refl
each-same f g (suc n) run same =
    ap (λ step. Stepped n step ∷ each_stepped f n run) (same n (omega arith))
    ∙ ap (λ r. Stepped n (g n) ∷ r) (each-same f g n run (λ s below. same s (omega (arith, below))))

pub none-stepped : (layout : Layout) (kept : RangesView) (run : List Turn) (refusal : ℕ → Option CoreFault)
    (step : ℕ → Step) → Represents layout kept run → HaveStepped layout kept run refusal step 0
none-stepped layout kept run refusal step h = record {
  none = λ s below. absurd (omega (arith, below));
  represents = h;
}

-- one store more
pub one-stepped : (layout : Layout) (old new : RangesView) (run : List Turn) (refusal : ℕ → Option CoreFault)
    (step : ℕ → Step) (n : ℕ) → HaveStepped layout old run refusal step n → refusal n ≡ None
    → Represents layout new (Stepped n (step n) ∷ each_stepped step n run)
    → HaveStepped layout new run refusal step (n + 1)
one-stepped layout old new run refusal step n h none next = record {
  none = λ s below.
      elim (cases_eq s n) [
        | inl e ↦ ap refusal e ∙ none
        | inr e ↦ (let b : s < n + 1 = below in h.none s (omega (arith, b, e)))
      ];
  represents = subst (λ r. Represents layout new r) (sym (each-next step n run)) next;
}

-- there are as many as stores
pub all-stepped : (layout : Layout) (kept : RangesView) (run : List Turn) (refusal : ℕ → Option CoreFault)
    (step : ℕ → Step) (n : ℕ) → HaveStepped layout kept run refusal step n → n ≡ layout.stores
    → HaveStepped layout kept run refusal step layout.stores
all-stepped layout kept run refusal step n h e = subst (λ k. HaveStepped layout kept run refusal step k) e h

-- What a handle has once a store was made of bytes, or none was.
use Rattle.std.proofs.Common.{◌≡◌, ℕ, List, sym, subst, ◌∙◌, inl}
use Rattle.std.specs.Prelude.{Option, Some, None, MatchOption, Result, Ok, Err, MatchResult}
use Rattle.hlc_core.specs.{Past.Step, StoreView.StoreView, StoreView.Represents}
use Rattle.hlc_saved.proofs.SaveLemmas.{of_frame}
use Rattle.hlc_calls.specs.Saved.{IsRestored, IsNotRestored}
use Rattle.hlc_calls.proofs.ResumedLemmas.{Restores, LeavesPast}
use Rattle.hlc_handle_calls.specs.Opening.{IsRestoring, RestoresPast}

abbrev Opens : Result StoreView ℕ → Option StoreView → ℕ → ℕ → ℕ → Type 0
Opens made new code was word =
    MatchResult made (λ core. MatchOption new ((code ≡ 15) × (word ≡ 0))
    (λ kept. (code ≡ 0) × (word ≡ was) × (kept ≡ core))) (λ why. (code ≡ why) × (word ≡ was) × (new ≡ None))

pub restores : (bytes : List ℕ) (made : Result StoreView ℕ) (new : Option StoreView) (code was word : ℕ)
    → Restores bytes made was → Opens made new code was word → IsRestoring None new bytes code word
restores bytes (Ok core) None code was word of short = inl (short.0, short.1, of_frame bytes was of.0 of.1)
restores bytes (Ok core) (Some kept) code was word of (zero, same, is) = (
  zero,
  subst (λ (it : StoreView). IsRestored bytes word it) (sym is)
      (subst (λ (saved : ℕ). IsRestored bytes saved core) (sym same) of),
)
restores bytes (Err why) new code was word none (same_code, same, closed) =
    subst (λ (it : Option StoreView). IsRestoring None it bytes code word) (sym closed)
    (subst (λ (answer : ℕ). IsNotRestored bytes answer word) (sym same_code)
    (subst (λ (saved : ℕ). IsNotRestored bytes why saved) (sym same) none))

pub restores_past : (saved : ℕ) (past : List Step) (made : Result StoreView ℕ) (new : Option StoreView)
    (code was word : ℕ) → LeavesPast saved past made was → Opens made new code was word
    → RestoresPast None new saved past code word
restores_past saved past (Ok core) None code was word left short = short.0
restores_past saved past (Ok core) (Some kept) code was word (is_saved, represents) (zero, same, is) =
    (same ∙ is_saved, subst (λ (it : StoreView). Represents it past) (sym is) represents)
restores_past saved past (Err why) new code was word short (same_code, same, closed) =
    subst (λ (it : Option StoreView). RestoresPast None it saved past code word) (sym closed) (same_code ∙ short)

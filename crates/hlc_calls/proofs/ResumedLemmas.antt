-- What the answer to a restore says of the bytes.
use Rattle.std.proofs.Common.{◌≡◌, ℕ, List, refl, sym, subst, ◌∙◌, ap, inl, inr}
use Rattle.std.specs.Prelude.{Result, Ok, Err, MatchResult, IfOk, IfErr}
use Rattle.hlc_core.specs.{Past.Step, StoreView.StoreView, StoreView.Represents}
use Rattle.hlc_saved.specs.Saved.{AreOf, Resumes}
use Rattle.hlc_saved.specs.declared.{fault.ResumeError.ResumeError, saving.Resumed.Resumed}
use Rattle.hlc_saved.specs.declared.fault.ResumeError.TheVariants.{NoMemory, Bytes, Parts}
use Rattle.hlc_calls.specs.Saved.{IsRestored, IsNotRestored, resume_code, resume_word}

abbrev pub Answers : Result Resumed ResumeError → Result StoreView ℕ → ℕ → Type 0
Answers resumed result word =
    MatchResult resumed (λ made. (result ≡ Ok made.core) × (word ≡ made.tag))
    (λ error. (result ≡ Err (resume_code error)) × (word ≡ resume_word error))

abbrev pub Restores : List ℕ → Result StoreView ℕ → ℕ → Type 0
Restores bytes result word =
    MatchResult result (λ core. IsRestored bytes word core) (λ code. IsNotRestored bytes code word)

abbrev pub LeavesPast : ℕ → List Step → Result StoreView ℕ → ℕ → Type 0
LeavesPast saved past result word =
    MatchResult result (λ core. (word ≡ saved) × Represents core past) (λ code. code ≡ 15)

not_made : (bytes : List ℕ) (error : ResumeError) (word : ℕ) → Resumes bytes (Err error) → word ≡ resume_word error
    → IsNotRestored bytes (resume_code error) word
not_made bytes NoMemory word none w = inl (refl, w, none)
not_made bytes (Bytes fault) word first w = inr (inl (fault, first, refl, w))
not_made bytes (Parts fault) word first w = inr (inr (fault, first, refl, w))

pub is_made : (bytes : List ℕ) (resumed : Result Resumed ResumeError) (result : Result StoreView ℕ) (word : ℕ)
    → Resumes bytes resumed → Answers resumed result word → Restores bytes result word
is_made bytes (Ok made) result word (kept, of, copy) (e, w) =
    subst (λ (r : Result StoreView ℕ). Restores bytes r word) (sym e)
    (kept, subst (λ (saved : ℕ). AreOf bytes saved kept) (sym w) of, copy)
is_made bytes (Err error) result word none (e, w) =
    subst (λ (r : Result StoreView ℕ). Restores bytes r word) (sym e) (not_made bytes error word none w)

pub is_past : (saved : ℕ) (past : List Step) (resumed : Result Resumed ResumeError) (result : Result StoreView ℕ)
    (word : ℕ) → Answers resumed result word → IfOk resumed (λ made. made.tag ≡ saved)
    → IfOk resumed (λ made. Represents made.core past) → IfErr resumed (λ error. error ≡ NoMemory)
    → LeavesPast saved past result word
is_past saved past (Ok made) result word (e, w) same represents none =
    subst (λ (r : Result StoreView ℕ). LeavesPast saved past r word) (sym e) (w ∙ same, represents)
is_past saved past (Err error) result word (e, w) same represents none =
    subst (λ (r : Result StoreView ℕ). LeavesPast saved past r word) (sym e) (ap resume_code none)

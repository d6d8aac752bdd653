-- Lemmas on the lines before a place, for the search for the first line that is not that of an event.
use Rattle.std.proofs.Common.{◌≡◌, ℕ, suc, zero, ◌+◌, ◌∙◌, sym, ap, refl, List, [], ◌∷◌, ◌++◌, length, take, drop}
use Rattle.std.proofs.Common.{arith, subst, Option, Some, None, true, false, slice_get, is_some, take-append-drop}
use Rattle.std.proofs.Common.{append-nil}
use Rattle.hlc_text.specs.{Text.Reads, Lines.lines_of}
use Rattle.hlc_world_event.specs.Events.{Event}
use Rattle.hlc_line.specs.Line.{event_line, HasLine}
use Rattle.hlc_explain.specs.Lines.{IsEventLine, AreEventLines, IsFirstBadLine}

-- this many lines are those of events, and the lines of the rest follow
abbrev pub Passed : List (List ℕ) → ℕ → List (List ℕ) → Type 0
Passed lines before rest = AreEventLines (take before lines) × (drop before lines ≡ rest)

pub line_there : (lines : List (List ℕ)) (before : ℕ) (line : List ℕ) (rest : List (List ℕ))
    → drop before lines ≡ line ∷ rest → slice_get lines before ≡ Some line
line_there [] zero line rest is = cc
line_there [] (suc n) line rest is = cc
line_there (x ∷ xs) zero line rest is = ap (λ (ls : List (List ℕ)). slice_get ls 0) is
line_there (x ∷ xs) (suc n) line rest is = line_there xs n line rest is

one_more : (lines : List (List ℕ)) (before : ℕ) (line : List ℕ) (rest : List (List ℕ))
    → Passed lines before (line ∷ rest) → IsEventLine line → Passed lines (suc before) rest
one_more [] zero line rest so_far fits = cc
one_more [] (suc n) line rest so_far fits = cc
one_more (x ∷ xs) zero line rest so_far fits = (
  (subst (λ (l : List ℕ). IsEventLine l) (sym (first_same x line xs rest so_far.1)) fits, tt),
  rest_same x line xs rest so_far.1,
)
  where
    first_same : (x line : List ℕ) (xs rest : List (List ℕ)) → x ∷ xs ≡ line ∷ rest → x ≡ line
    first_same x line xs rest e = cc

    rest_same : (x line : List ℕ) (xs rest : List (List ℕ)) → x ∷ xs ≡ line ∷ rest → xs ≡ rest
    rest_same x line xs rest e = cc
one_more (x ∷ xs) (suc n) line rest so_far fits =
    let more = one_more xs n line rest (so_far.0.1, so_far.1) fits in ((so_far.0.0, more.0), more.1)

pub next_passed : (lines : List (List ℕ)) (before : ℕ) (line text after : List ℕ)
    → Passed lines before (lines_of text) → lines_of text ≡ line ∷ lines_of after → IsEventLine line
    → Passed lines (before + 1) (lines_of after)
next_passed lines before line text after so_far is fits =
    let e : before + 1 ≡ suc before = omega arith in
    rw e (one_more lines before line (lines_of after) (so_far.0, so_far.1 ∙ is) fits)

pub first_bad : (lines : List (List ℕ)) (before : ℕ) (line text after : List ℕ)
    → Passed lines before (lines_of text) → lines_of text ≡ line ∷ lines_of after
    → (IsEventLine line → ⊥) → IsFirstBadLine lines before line
first_bad lines before line text after so_far is bad =
    (line_there lines before line (lines_of after) (so_far.1 ∙ is), so_far.0, bad)

-- a line that is read is that of an event, and one that is not read is not
pub good_read : (line : List ℕ) (read : Option Event) → Reads event_line HasLine line read
    → is_some read ≡ true → IsEventLine line
good_read line None reads some = cc
good_read line (Some event) reads some = (event, reads)

pub bad_read : (line : List ℕ) (read : Option Event) → Reads event_line HasLine line read
    → is_some read ≡ false → IsEventLine line → ⊥
bad_read line None reads none good = reads good.0 good.1.0 good.1.1
bad_read line (Some event) reads none good = cc

none_left : (text : List ℕ) → length text ≡ 0 → lines_of text ≡ []
none_left [] empty = refl
none_left (x ∷ xs) empty = absurd (omega (arith, empty))

pub all_passed : (lines : List (List ℕ)) (before : ℕ) (text : List ℕ)
    → Passed lines before (lines_of text) → length text ≡ 0 → AreEventLines lines
all_passed lines before text so_far empty =
    let whole : take before lines ≡ lines =
    sym (append-nil (take before lines))
    ∙ ap (λ (l : List (List ℕ)). take before lines ++ l) (sym (so_far.1 ∙ none_left text empty))
    ∙ take-append-drop before lines in
    subst (λ (l : List (List ℕ)). AreEventLines l) whole so_far.0

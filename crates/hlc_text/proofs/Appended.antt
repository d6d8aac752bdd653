-- A text that is written where another one ends, and texts that are appended one after another.
use Rattle.std.proofs.Common.{◌≡◌, ◌≤◌, ◌+◌, ◌++◌, ◌∙◌, sym, ap, ℕ, List, take, drop, length, take-append-drop}
use Rattle.std.proofs.Common.{append_assoc}
use Rattle.std.proofs.{Math.Seq.take-append_seam, Math.Seq.take-append-add, lemmas.List.length-take-le}

pub text_after : (old new text rest : List ℕ) (start : ℕ) → start ≤ length old → take start new ≡ take start old
    → drop start new ≡ text ++ rest → take (start + length text) new ≡ take start old ++ text
text_after old new text rest start within before written =
    ap (take (start + length text)) (sym (take-append-drop start new) ∙ ap (λ l. l ++ drop start new) before
    ∙ ap (λ l. take start old ++ l) written)
    ∙ ap (λ k. take (k + length text) (take start old ++ (text ++ rest))) (sym (length-take-le start old within))
    ∙ take-append-add (take start old) (text ++ rest) (length text)
    ∙ ap (λ l. take start old ++ l) (take-append_seam text rest)

-- one more text
pub then_more : {mid new : List ℕ} (old xs ys : List ℕ) → mid ≡ old ++ xs → new ≡ mid ++ ys → new ≡ old ++ (xs ++ ys)
then_more old xs ys first second = second ∙ ap (λ l. l ++ ys) first ∙ append_assoc old xs ys

-- Writes into a text in place append: what several of them wrote together comes after the text that was there before.
use Rattle.std.proofs.Common.{◌≡◌, ℕ, List, [], ◌∷◌, ◌++◌, sym, ap, subst, ◌∙◌, append-nil, append_assoc}
use Rattle.std.specs.{List.FoldsTo, List.concat, declared.fmt.InlineText.InlineText}
use Rattle.std.specs.Fmt.{WritesInCalls, InlineText.inline_text, InlineText.IsIntact, InlineText.AppendsIfIntact}

module _ {n : ℕ} where
  after_calls : (s : InlineText n) (parts : List (List ℕ)) (t : InlineText n) → FoldsTo AppendsIfIntact s parts t
      → AppendsIfIntact s (concat parts) t
  after_calls s [] t same intact =
      (subst IsIntact same intact, ap inline_text (sym same) ∙ sym (append-nil (inline_text s)))
  after_calls s (x ∷ parts) t calls intact =
      let first = calls.1 intact in
      let rest = after_calls calls.0 parts t calls.2 first.0 in
      (rest.0, rest.1 ∙ ap (λ l. l ++ concat parts) first.1 ∙ append_assoc (inline_text s) x (concat parts))

  -- a text that was empty contains just what was written
  pub only_written : (s : InlineText n) (bs : List ℕ) (t : InlineText n) → WritesInCalls AppendsIfIntact s bs t
      → IsIntact s → inline_text s ≡ [] → inline_text t ≡ bs
  only_written s bs t wrote intact empty =
      (after_calls s wrote.parts t wrote.calls intact).1 ∙ ap (λ l. l ++ concat wrote.parts) empty ∙ wrote.whole

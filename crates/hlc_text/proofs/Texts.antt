-- Texts that a writer takes one after another, after text that waited: two texts, and no text. The next call starts
-- with the text that one call leaves waiting.
use Rattle.std.proofs.Common.{◌≡◌, ℕ, ◌∙◌, sym, ap, subst, refl, Bool, true, false, List, [], ◌++◌, Option, Some, None}
use Rattle.std.proofs.Common.{append-nil, append_assoc}
use Rattle.std.{specs.Io.KnownBytes.Appends, proofs.lemmas.Bool.false≢true}

-- what waited and the text were taken, except for what still waits; or a front of them where the writer failed
pub record Took (failed_before failed : Bool) (before after : Option (List ℕ)) (waited waits text : List ℕ)
    : Type 0 where
  pub front : List ℕ
  pub back : List ℕ
  pub cut : waited ++ text ≡ front ++ back
  pub taken : Appends before after front
  pub whole : failed ≡ false → (failed_before ≡ false) × (back ≡ waits)
  pub nothing : failed_before ≡ true → (failed ≡ true) × (front ≡ [])

pub Appends-nil : (known : Option (List ℕ)) → Appends known known []
Appends-nil None = tt
Appends-nil (Some xs) = sym (append-nil xs)

pub Appends-then : (a b c : Option (List ℕ)) (xs ys : List ℕ) → Appends a b xs → Appends b c ys → Appends a c (xs ++ ys)
Appends-then None b c xs ys first second = tt
Appends-then (Some x) None c xs ys first second = absurd first
Appends-then (Some x) (Some y) None xs ys first second = absurd second
Appends-then (Some x) (Some y) (Some z) xs ys first second = second ∙ ap (λ l. l ++ ys) first ∙ append_assoc x xs ys

-- two texts, one after the other
pub took_both : (f g h : Bool) (a b c : Option (List ℕ)) (u v w xs ys : List ℕ) → Took f g a b u v xs
    → Took g h b c v w ys → Took f h a c u w (xs ++ ys)
took_both f true h a b c u v w xs ys first second = record {
  front = first.front;
  back = first.back ++ ys;
  cut = sym (append_assoc u xs ys) ∙ ap (λ l. l ++ ys) first.cut ∙ append_assoc first.front first.back ys;
  taken = subst (λ (zs : List ℕ). Appends a c zs) (append-nil first.front) (Appends-then a b c first.front []
      first.taken (subst (λ (zs : List ℕ). Appends b c zs) (second.nothing refl).1 second.taken));
  whole = λ e. absurd (false≢true (sym (second.whole e).0));
  nothing = λ e. ((second.nothing refl).0, (first.nothing e).1);
}
took_both f false h a b c u v w xs ys first second = record {
  front = first.front ++ second.front;
  back = second.back;
  cut = sym (append_assoc u xs ys) ∙ ap (λ l. l ++ ys) (first.cut ∙ ap (λ l. first.front ++ l) (first.whole refl).1)
      ∙ append_assoc first.front v ys ∙ ap (λ l. first.front ++ l) second.cut
      ∙ sym (append_assoc first.front second.front second.back);
  taken = Appends-then a b c first.front second.front first.taken second.taken;
  whole = λ e. ((first.whole refl).0, (second.whole e).1);
  nothing = λ e. absurd (false≢true ((first.nothing e).0));
}

-- nothing is printed
pub took_none : {f : Bool} {known : Option (List ℕ)} {u : List ℕ} → Took f f known known u u []
took_none {f} {known} {u} = record {
  front = [];
  back = u;
  cut = append-nil u;
  taken = Appends-nil known;
  whole = λ e. (e, refl);
  nothing = λ e. (e, refl);
}

-- The key of the next number is appended to the earlier ones.
use Rattle.std.proofs.Common.{List, ℕ, ◌∙◌, ap, sym, arith, ◌++◌, ◌∷◌, [], map}
use Rattle.std.{specs.List.range_with_len, proofs.lemmas.List.FromFn.map-range_with_len_more}
use Rattle.hlc_storm.specs.Written.{key_text}
use Rattle.hlc_storm.proofs.writing.all_keys.Goals as goal

pub loop-number-preserved : goal.loop-number-preserved
loop-number-preserved c =
    let n = c.loop-number.number in
    c.in_ok-push.ensures.items
    ∙ ap (λ (keys : List (List ℕ)). keys ++ c.in_ok-key.key ∷ []) c.loop-number.invariant
    ∙ ap (λ (key : List ℕ). map key_text (range_with_len 0 n) ++ key ∷ []) c.in_ok-key.ensures
    ∙ sym (map-range_with_len_more key_text 0 n n (omega arith))

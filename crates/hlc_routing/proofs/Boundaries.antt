-- Neighbours among ascending boundaries.
use Rattle.std.proofs.Common.{◌≡◌, ℕ, ◌+◌, ◌-◌, ◌<◌, List, length, get_or, Less, nat_cmp, ap, ap₂, sym, ◌∙◌, arith}
use Rattle.std.{proofs.lemmas.List.get_or_read, specs.Cmp.Lexicographic.slice_cmp}
use Rattle.hlc_routing.specs.Division.{AreAscending}

pub neighbours : (boundaries : List (List ℕ)) (i : ℕ) (a b : List ℕ) → 0 < i → i < length boundaries
    → a ≡ get_or boundaries (i - 1) a → b ≡ get_or boundaries i b → AreAscending boundaries
    → slice_cmp nat_cmp a b ≡ Less
neighbours boundaries i a b above within is_a is_b up =
    let next : i - 1 + 1 ≡ i = omega arith in
    ap₂ (slice_cmp nat_cmp) is_a
    (get_or_read boundaries i b within is_b a ∙ ap (λ k. get_or boundaries k a) (sym next))
    ∙ up (i - 1) a (omega arith)

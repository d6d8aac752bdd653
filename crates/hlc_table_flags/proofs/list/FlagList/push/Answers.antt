-- The bits with one more that is not set, in a word of its own where the last one is full; and then it may be set.
use Rattle.std.proofs.Common.{◌≡◌, ◌+◌, ◌-◌, ◌<◌, ◌∙◌, ◌∷◌, ◌++◌, [], ℕ, false, true, refl, ap, sym, subst, arith}
use Rattle.std.proofs.Common.{length, set, rules}
use Rattle.hlc_table_flags.specs.Bits.{bit_in, bits_in}
use Rattle.hlc_table_flags.proofs.{BitLemmas.bits_length, BitLemmas.bits_more, BitLemmas.set_last, WordLemmas.with_zero}
use Rattle.hlc_table_flags.proofs.list.FlagList.push.Goals.{Joined-self-eq0, then-self-eq0+in_ok-push, else-self-eq0}
use Rattle.hlc_table_flags.proofs.list.FlagList.push.Goals as goal

next : (c : Joined-self-eq0) → c.in_ok-len.len ≡ c.self.inside.len + 1
next c = search rules

same : (c : Joined-self-eq0) (at : ℕ)
    → bit_in c.if-self-eq0.self-inside.words.items at ≡ bit_in c.self.inside.words.items at
same c at = elim c.if-self-eq0.branch [
  | then-self-eq0+in_ok-push w ↦
      rw w.self-inside-is
      (ap (λ words. bit_in words at) w.in_ok-push.ensures.items ∙ with_zero c.self.inside.words.items at)
  | else-self-eq0 w ↦ rw w.self-inside-is refl
]

grown : (c : Joined-self-eq0)
    → bits_in c.if-self-eq0.self-inside.words.items 0 c.in_ok-len.len ≡ c.args.self.now ++ false ∷ []
grown c =
    let last = c.self.inside.len in
    ap (bits_in c.if-self-eq0.self-inside.words.items 0) (next c)
    ∙ bits_more c.self.inside.words.items c.if-self-eq0.self-inside.words.items last c.args.self.now
    (c.self.invariant.1 last (omega arith)) (same c) c.self.view_is

many : (c : Joined-self-eq0) → length c.args.self.now ≡ c.in_ok-len.len - 1
many c =
    let e = next c in
    sym (ap length c.self.view_is) ∙ bits_length c.self.inside.words.items 0 c.self.inside.len ∙ omega (arith, e)

pub set-requires : goal.set-requires
set-requires c =
    let e = next ((goal.at.set-requires c).Joined-self-eq0) in
    subst (λ n. c.in_ok-len.len - 1 < n) (sym (bits_length c.if-self-eq0.self-inside.words.items 0 c.in_ok-len.len))
    (omega (arith, e))

pub returns-then-flag-clause-ok : goal.returns-then-flag-clause-ok
returns-then-flag-clause-ok c =
    let at = (goal.at.returns-then-flag-clause-ok c).Joined-self-eq0 in
    c.set.ensures ∙ ap (λ flags. set flags (c.in_ok-len.len - 1) true) (grown at)
    ∙ set_last c.args.self.now (c.in_ok-len.len - 1) (many at)
    ∙ ap (λ flag. c.args.self.now ++ flag ∷ []) (sym c.if-flag.true)

pub returns-else-flag-clause-ok : goal.returns-else-flag-clause-ok
returns-else-flag-clause-ok c =
    grown ((goal.at.returns-else-flag-clause-ok c).Joined-self-eq0)
    ∙ ap (λ flag. c.args.self.now ++ flag ∷ []) (sym c.if-flag.false)

-- The head of a node that has not retired is not below the floor, and the floor is not below the stamp.
use Rattle.std.proofs.Common.{◌≡◌, ◌≤◌, ◌<◌, ℕ, true, false, is_le, nat_cmp, ap, sym, ◌∙◌, refl, inl, inr, arith}
use Rattle.hlc_heads.specs.Heads.{link_at}
use Rattle.std.proofs.lemmas.Cmp.{by_ranked, ranked}
use Rattle.test_store.proofs.callers.is_complete.Goals as goal

at-most : (a b : ℕ) → is_le (nat_cmp a b) ≡ true → a ≤ b
at-most a b h =
    by_ranked (a < b) (a ≡ b) (b < a) (nat_cmp a b) (ranked a b (nat_cmp a b) refl) (λ e less. omega arith)
    (λ e same. omega arith)
    (λ e more. absurd (let f : false ≡ true = ap is_le (sym e) ∙ h in cc))

pub returns : goal.returns
returns c = λ yes k within left.
    let least : c.args.stamp ≤ c.floor.result = at-most c.args.stamp c.floor.result (sym c.le.ensures ∙ yes) in
    elim c.floor.ensures [
      | inl one ↦
          let low : c.floor.result ≤ (link_at c.args.heads.now.links k).head = one.least k within left in
          omega arith
      | inr none ↦ absurd (let e : false ≡ true = sym left ∙ none.0 k within in cc)
    ]

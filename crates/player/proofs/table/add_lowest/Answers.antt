-- Where no row is at or below a stamp, no row has this stamp.
use Rattle.std.proofs.Common.{◌≡◌, ◌∙◌, ◌<◌, ℕ, zero, suc, List, [], ◌∷◌, sym, ap, cond, arith, length, get_or}
use Rattle.std.proofs.Common.{true≢false, inl, inr, nat_le}
use Rattle.std.{specs.Prelude.Contains, specs.Prelude.filter, proofs.lemmas.Bool.cases_Bool, proofs.lemmas.Bool.le-leb}
use Rattle.hlc_rows.specs.declared.row.Row.{Row}
use Rattle.player.proofs.table.add_lowest.Goals as goal

no_row_at : (bound : ℕ) (rows : List Row) → length (filter (λ (row : Row). nat_le row.stamp bound) rows) ≡ 0
    → (other : Row) → Contains rows other → bound ≡ other.stamp → ⊥
no_row_at bound [] none other (k, lt, e) same = omega (arith, lt)
no_row_at bound (row ∷ rows) none other (k, lt, e) same =
    let rest : List Row = filter (λ (row : Row). nat_le row.stamp bound) rows in
    elim (cases_Bool (nat_le row.stamp bound)) [
      | inl hit ↦
          let some : length (row ∷ rest) ≡ 0 = sym (ap (λ b. length (cond b (row ∷ rest) rest)) hit) ∙ none in
          absurd (omega (arith, some))
      | inr miss ↦
          let left : length rest ≡ 0 = sym (ap (λ b. length (cond b (row ∷ rest) rest)) miss) ∙ none in
          elim k as (λ n. n < length (row ∷ rows) → get_or (row ∷ rows) n other ≡ other → ⊥) [
            | zero ↦ λ l is.
                let here : row.stamp ≡ bound = ap (λ (r : Row). r.stamp) is ∙ sym same in
                true≢false (sym (le-leb row.stamp bound (omega (arith, here))) ∙ miss)
            | suc n ↦ λ l is. no_row_at bound rows left other (n, omega (arith, l), is) same
          ] lt e
    ]

pub insert-requires : goal.insert-requires
insert-requires c = λ other m same.
    let zero : c.rows_at.result ≡ 0 = omega (arith, c.if-rows_at-gt0.false) in
    let none : length (filter (λ (row : Row). nat_le row.stamp c.args.row.stamp) c.args.table.now) ≡ 0 =
    sym c.rows_at.ensures ∙ zero in
    no_row_at c.args.row.stamp c.args.table.now none other m same.stamp

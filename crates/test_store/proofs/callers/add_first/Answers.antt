-- Where there is no row of the key, no row has this version.
use Rattle.std.proofs.Common.{◌≡◌, ◌∙◌, ◌<◌, ℕ, zero, suc, List, [], ◌∷◌, sym, ap, cond, arith, length, get_or}
use Rattle.std.proofs.Common.{true≢false, inl, inr, rules, Contains, bytes_eq}
use Rattle.std.proofs.lemmas.{Bool.cases_Bool, Slice.Eq.bytes_eq-Decides}
use Rattle.hlc_rows.specs.declared.row.Row.{Row}
use Rattle.hlc_table_column.specs.Rows.{rows_with}
use Rattle.test_store.proofs.callers.add_first.Goals as goal

no_row_with : (key : List ℕ) (rows : List Row) → rows_with key rows ≡ [] → (other : Row) → Contains rows other
    → other.key ≡ key → ⊥
no_row_with key [] none other (k, lt, e) same = omega (arith, lt)
no_row_with key (row ∷ rows) none other (k, lt, e) same =
    elim (cases_Bool (bytes_eq row.key key)) [
      | inl hit ↦
          let some : ◌≡◌ {A = List Row} (row ∷ rows_with key rows) [] =
          sym (ap (λ b. cond b (row ∷ rows_with key rows) (rows_with key rows)) hit) ∙ none in
          absurd (let long = ap length some in omega (arith, long))
      | inr miss ↦
          let rest : rows_with key rows ≡ [] =
          sym (ap (λ b. cond b (row ∷ rows_with key rows) (rows_with key rows)) miss) ∙ none in
          elim k as (λ n. n < length (row ∷ rows) → get_or (row ∷ rows) n other ≡ other → ⊥) [
            | zero ↦
                λ l is. true≢false (sym ((bytes_eq-Decides row.key key).1 (ap (λ (r : Row). r.key) is ∙ same)) ∙ miss)
            | suc n ↦ λ l is. no_row_with key rows rest other (n, omega (arith, l), is) same
          ] lt e
    ]

pub insert-requires : goal.insert-requires
insert-requires c = λ other m same.
    let absent : rows_with c.as_slice.result.now c.args.table.now ≡ [] = c.column.ensures.absent.0 (search rules) in
    no_row_with c.as_slice.result.now c.args.table.now absent other m (sym same.key ∙ sym c.as_slice.ensures)

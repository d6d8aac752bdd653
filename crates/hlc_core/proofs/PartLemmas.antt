-- Among some rows, those of the keys of a kind: they are a row set if the rows are, they answer at the keys of the kind
-- as the rows do, and they have no answer at other keys. So stored rows of these keys represent all accepted ones of
-- these keys.
use Rattle.std.proofs.Common.{◌≡◌, ℕ, List, [], ◌∷◌, Bool, true, false, Option, None, Contains, refl, ap, sym, ◌∙◌}
use Rattle.std.proofs.Common.{cond, ◌≤◌, Some, subst, arith, ◌≢◌, if◌then◌else◌, option_and_then, not}
use Rattle.std.proofs.lemmas.Bool.{cond-false, both_ways}
use Rattle.hlc_values.proofs.MemberLemmas.{Contains-filter, Contains-from_filter}
use Rattle.hlc_rows.specs.{declared.row.Row.Row, Rows.is_candidate, Rows.later, Rows.newest, Rows.answer, Rows.IsRowSet}
use Rattle.hlc_rows.proofs.CandidateLemmas.{other-misses}
use Rattle.hlc_rows.proofs.NewestLemmas.{answer_none}
use Rattle.hlc_table_column.proofs.FlagLemmas.{filter-IsRowSet}
use Rattle.hlc_vacuum.specs.Representing.{RowsRepresent}
use Rattle.hlc_core.specs.Parts.{rows_of_keys}

-- a row of another key is not of the key
other-key : (is_of : List ℕ → Bool) (key : List ℕ) (row : Row) → is_of key ≡ true → is_of row.key ≡ false
    → row.key ≢ key
other-key is_of key row t f e = both_ways (is_of key) (sym (ap is_of e) ∙ f) t

newest-of_keys : (is_of : List ℕ → Bool) (rows : List Row) (key : List ℕ) (bound : ℕ) → is_of key ≡ true
    → newest (rows_of_keys is_of rows) key bound ≡ newest rows key bound
unfolding newest
newest-of_keys is_of [] key bound t = refl
newest-of_keys is_of (first ∷ rows) key bound t =
    let rest : newest (rows_of_keys is_of rows) key bound ≡ newest rows key bound =
    newest-of_keys is_of rows key bound t in
    elim (is_of first.key) as (λ b. is_of first.key ≡ b
    → newest (cond b (first ∷ rows_of_keys is_of rows) (rows_of_keys is_of rows)) key bound
    ≡ newest (first ∷ rows) key bound) [
      | true ↦ λ _. ap (λ o. if is_candidate key bound first then Some (later first o) else o) rest
      | false ↦ λ f. rest ∙ sym (cond-false _ _ _ (other-misses key bound first (other-key is_of key first t f)))
    ] refl

newest-other_keys : (is_of : List ℕ → Bool) (rows : List Row) (key : List ℕ) (bound : ℕ) → is_of key ≡ false
    → newest (rows_of_keys is_of rows) key bound ≡ None
unfolding newest
newest-other_keys is_of [] key bound f = refl
newest-other_keys is_of (first ∷ rows) key bound f =
    let rest : newest (rows_of_keys is_of rows) key bound ≡ None = newest-other_keys is_of rows key bound f in
    elim (is_of first.key) as (λ b. is_of first.key ≡ b
    → newest (cond b (first ∷ rows_of_keys is_of rows) (rows_of_keys is_of rows)) key bound ≡ None) [
      | true ↦ λ t. cond-false _ _ _ (other-misses key bound first
          (λ e. both_ways (is_of key) f (sym (ap is_of e) ∙ t))) ∙ rest
      | false ↦ λ _. rest
    ] refl

-- at a key of the kind they answer as the rows do
pub answer-of_keys : (is_of : List ℕ → Bool) (rows : List Row) (key : List ℕ) (bound : ℕ) → is_of key ≡ true
    → answer (rows_of_keys is_of rows) key bound ≡ answer rows key bound
answer-of_keys is_of rows key bound t =
    ap (λ (o : Option Row). option_and_then (λ (row : Row). row.value) o) (newest-of_keys is_of rows key bound t)

-- at other keys they have no answer
pub answer-other_keys : (is_of : List ℕ → Bool) (rows : List Row) (key : List ℕ) (bound : ℕ) → is_of key ≡ false
    → answer (rows_of_keys is_of rows) key bound ≡ None
answer-other_keys is_of rows key bound f =
    answer_none (rows_of_keys is_of rows) key bound (newest-other_keys is_of rows key bound f)

-- rows with the same answers at a key of the kind
pub same-of_keys : (is_of : List ℕ → Bool) (rows others : List Row) (key : List ℕ) (bound : ℕ)
    → answer rows key bound ≡ answer others key bound
    → answer (rows_of_keys is_of rows) key bound ≡ answer (rows_of_keys is_of others) key bound
same-of_keys is_of rows others key bound same =
    elim (is_of key) as (λ b. is_of key ≡ b
    → answer (rows_of_keys is_of rows) key bound ≡ answer (rows_of_keys is_of others) key bound) [
      | true ↦ λ t. answer-of_keys is_of rows key bound t ∙ same ∙ sym (answer-of_keys is_of others key bound t)
      | false ↦ λ f. answer-other_keys is_of rows key bound f ∙ sym (answer-other_keys is_of others key bound f)
    ] refl

-- stored rows of these keys represent all accepted ones of these keys
pub represent-of_keys : (is_of : List ℕ → Bool) (stored all : List Row) (horizon : ℕ) (opened : List ℕ)
    → RowsRepresent stored all horizon opened
    → RowsRepresent (rows_of_keys is_of stored) (rows_of_keys is_of all) horizon opened
represent-of_keys is_of stored all horizon opened represent = record {
  row_set = filter-IsRowSet (λ row. is_of row.key) stored represent.row_set;
  all_row_set = filter-IsRowSet (λ row. is_of row.key) all represent.all_row_set;
  within = λ row m.
      let from = Contains-from_filter (λ row. is_of row.key) stored row m in
      Contains-filter (λ row. is_of row.key) all row (represent.within row from.0) from.1;
  above = λ row m up.
      let from = Contains-from_filter (λ row. is_of row.key) all row m in
      Contains-filter (λ row. is_of row.key) stored row (represent.above row from.0 up) from.1;
  at_open = λ key stamp m. same-of_keys is_of stored all key stamp (represent.at_open key stamp m);
  from_horizon = λ key stamp le. same-of_keys is_of stored all key stamp (represent.from_horizon key stamp le);
}

-- The rows of these keys represent all accepted ones of these keys, and the others are as before: so the rows represent
-- all accepted ones.
pub represent-parts : (is_of : List ℕ → Bool) (old rows all : List Row) (horizon at : ℕ) (opened : List ℕ)
    → RowsRepresent old all horizon opened → horizon ≤ at → IsRowSet rows
    → RowsRepresent (rows_of_keys is_of rows) (rows_of_keys is_of all) at opened
    → rows_of_keys (λ key. not (is_of key)) rows ≡ rows_of_keys (λ key. not (is_of key)) old
    → RowsRepresent rows all at opened
represent-parts is_of old rows all horizon at opened represent high apart part others =
    let is_other : List ℕ → Bool = λ key. not (is_of key) in
    let stays : (row : Row) → Contains rows row → is_of row.key ≡ false → Contains old row = λ row m f.
    (Contains-from_filter (λ row. is_other row.key) old row (subst (λ rs. Contains rs row) others
    (Contains-filter (λ row. is_other row.key) rows row m (ap not f)))).0 in
    let back : (row : Row) → Contains old row → is_of row.key ≡ false → Contains rows row = λ row m f.
    (Contains-from_filter (λ row. is_other row.key) rows row (subst (λ rs. Contains rs row) (sym others)
    (Contains-filter (λ row. is_other row.key) old row m (ap not f)))).0 in
    let answers : (key : List ℕ) (stamp : ℕ)
    → answer (rows_of_keys is_of rows) key stamp ≡ answer (rows_of_keys is_of all) key stamp
    → answer old key stamp ≡ answer all key stamp → answer rows key stamp ≡ answer all key stamp =
    λ key stamp here was. elim (is_of key) as (λ b. is_of key ≡ b → answer rows key stamp ≡ answer all key stamp) [
      | true ↦ λ t. sym (answer-of_keys is_of rows key stamp t) ∙ here ∙ answer-of_keys is_of all key stamp t
      | false ↦ λ f. sym (answer-of_keys is_other rows key stamp (ap not f))
          ∙ ap (λ rs. answer rs key stamp) others ∙ answer-of_keys is_other old key stamp (ap not f) ∙ was
    ] refl in
    record {
      row_set = apart;
      all_row_set = represent.all_row_set;
      within = λ row m. elim (is_of row.key) as (λ b. is_of row.key ≡ b → Contains all row) [
        | true ↦ λ t. (Contains-from_filter (λ row. is_of row.key) all row
            (part.within row (Contains-filter (λ row. is_of row.key) rows row m t))).0
        | false ↦ λ f. represent.within row (stays row m f)
      ] refl;
      above = λ row m up. elim (is_of row.key) as (λ b. is_of row.key ≡ b → Contains rows row) [
        | true ↦ λ t. (Contains-from_filter (λ row. is_of row.key) rows row
            (part.above row (Contains-filter (λ row. is_of row.key) all row m t) up)).0
        | false ↦ λ f. back row (represent.above row m (omega arith)) f
      ] refl;
      at_open = λ key stamp m. answers key stamp (part.at_open key stamp m) (represent.at_open key stamp m);
      from_horizon = λ key stamp le. answers key stamp (part.from_horizon key stamp le)
          (represent.from_horizon key stamp (omega arith));
    }

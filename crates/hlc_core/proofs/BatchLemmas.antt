-- The rows of a batch: all have its node and its stamp. If the batch is not refused, they are a row set, since its
-- writes are of different keys, and each of them is in the limits.
use Rattle.std.proofs.Common.{◌≡◌, ℕ, List, [], ◌∷◌, ◌++◌, true, false, None, ap, sym, ◌∙◌, inl, inr, Contains}
use Rattle.std.proofs.lemmas.{Bool.both_ways, Bool.or_left, Bool.or_right, Bool.or_parts, Slice.Eq.bytes_eq-Decides}
use Rattle.std.proofs.lemmas.List.Elements.{Contains-append_cases, Contains-append_left, All-nil, All-cons}
use Rattle.hlc_values.proofs.MemberLemmas.{Contains-none, Contains-first, Contains-rest, Contains-cons_cases}
use Rattle.hlc_rows.specs.declared.{row.Row.Row, write.Write.Write}
use Rattle.hlc_rows.specs.{Limits.write_refusal, Rows.IsSameVersion, Rows.IsRowSet}
use Rattle.hlc_rows.specs.Writes.{writes_key, writes_twice, writes_refusal, row_written, rows_written}
use Rattle.hlc_rows.proofs.WritesLemmas.{first-none}
use Rattle.hlc_witness.specs.Cost.{IsInLimits, AreInLimits}

-- each row of a batch has its node and its stamp
pub rows_written-are : (node stamp : ℕ) (writes : List Write) (row : Row)
    → Contains (rows_written node stamp writes) row → (row.node ≡ node) × (row.stamp ≡ stamp)
rows_written-are node stamp [] row m = absurd (Contains-none row m)
rows_written-are node stamp (write ∷ writes) row m =
    elim (Contains-cons_cases (row_written node stamp write) row (rows_written node stamp writes) m) [
      | inl same ↦ (sym (ap (λ r. r.node) same), sym (ap (λ r. r.stamp) same))
      | inr rest ↦ rows_written-are node stamp writes row rest
    ]

-- a row of a batch is of a key that the batch writes
writes_key-of : (key : List ℕ) (node stamp : ℕ) (writes : List Write) (row : Row)
    → Contains (rows_written node stamp writes) row → row.key ≡ key → writes_key key writes ≡ true
writes_key-of key node stamp [] row m of = absurd (Contains-none row m)
writes_key-of key node stamp (write ∷ writes) row m of =
    elim (Contains-cons_cases (row_written node stamp write) row (rows_written node stamp writes) m) [
      | inl same ↦ or_left _ _ ((bytes_eq-Decides write.key key).1 (ap (λ r. r.key) same ∙ of))
      | inr rest ↦ or_right _ _ (writes_key-of key node stamp writes row rest of)
    ]

-- the rows of writes of different keys are a row set
pub rows_written-set : (node stamp : ℕ) (writes : List Write) → writes_twice writes ≡ false
    → IsRowSet (rows_written node stamp writes)
rows_written-set node stamp [] once = tt
rows_written-set node stamp (write ∷ writes) once =
    let both : (writes_key write.key writes ≡ false) × (writes_twice writes ≡ false) = or_parts _ _ once in (
      λ other m same. both_ways (writes_key write.key writes) both.0
          (writes_key-of write.key node stamp writes other m (sym same.key)),
      rows_written-set node stamp writes both.1,
    )

-- the rows of writes that are not refused are in the limits
pub rows_written-limits : (node stamp : ℕ) (writes : List Write) → writes_refusal writes ≡ None
    → AreInLimits (rows_written node stamp writes)
rows_written-limits node stamp [] none = All-nil _
rows_written-limits node stamp (write ∷ writes) none =
    let both = first-none (write_refusal write.key write.value) (writes_refusal writes) none in
    All-cons IsInLimits (row_written node stamp write) (rows_written node stamp writes) both.0
    (rows_written-limits node stamp writes both.1)

-- two row sets without a common version are one row set
pub row_set-append : (rows more : List Row) → IsRowSet rows → IsRowSet more
    → ((row other : Row) → Contains more row → Contains rows other → IsSameVersion other row → ⊥)
    → IsRowSet (rows ++ more)
row_set-append [] more set' new fresh = new
row_set-append (first ∷ rows) more set' new fresh = (
  λ other m same.
      elim (Contains-append_cases rows more other m) [
        | inl earlier ↦ set'.0 other earlier same
        | inr added ↦ fresh other first added (Contains-first first rows) same
      ],
  row_set-append rows more set'.1 new (λ row other m k. fresh row other m (Contains-rest first other rows k)),
)

-- the first rows of a row set are one
pub row_set-front : (rows more : List Row) → IsRowSet (rows ++ more) → IsRowSet rows
row_set-front [] more all' = tt
row_set-front (first ∷ rows) more all' = (
  λ other m. all'.0 other (Contains-append_left rows more other m),
  row_set-front rows more all'.1,
)

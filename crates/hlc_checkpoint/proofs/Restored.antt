-- The rows of a checkpoint are stored one by one, each of a new version.
use Rattle.std.proofs.Common.{◌≡◌, ℕ, ◌+◌, ◌<◌, List, [], ◌∷◌, ◌++◌, length, get_or, take, ap, sym, ◌∙◌, subst, arith}
use Rattle.std.proofs.Common.{IsPermutation}
use Rattle.std.{specs.Prelude.All, proofs.Math.Seq.take-append_seam, proofs.Math.Seq.get_or-append_seam}
use Rattle.std.proofs.lemmas.Option.{slice_get-get_or, get_or_from_slice_get}
use Rattle.std.proofs.lemmas.List.{take_more, get_or-take, length-append, length-take-le, Elements.All-contains}
use Rattle.std.proofs.lemmas.List.Sorted.{All-permutation, IsPermutation-trans, IsPermutation-append_left}
use Rattle.hlc_rows.specs.{declared.row.Row.Row, Rows.IsSameVersion}
use Rattle.hlc_columns.specs.Table.{HasNoVersion}
use Rattle.hlc_witness.specs.Certificate.{RowsAscend}
use Rattle.hlc_witness.proofs.CertificateLemmas.{ascending_rows_are_a_row_set}
use Rattle.hlc_checkpoint.proofs.AscendLemmas.{apart}

any-default : (rows : List Row) (k : ℕ) (d e : Row) → k < length rows → get_or rows k d ≡ get_or rows k e
any-default rows k d e lt = get_or_from_slice_get rows k (get_or rows k e) d (slice_get-get_or rows k e lt)

-- one more of ascending rows is of a new version
pub fresh-row : (rows : List Row) (i : ℕ) (row : Row) (table : List Row) → RowsAscend rows → i < length rows
    → row ≡ get_or rows i row → IsPermutation (take i rows) table → HasNoVersion table row
fresh-row rows i row table up lt is moved other m same =
    let len : length (take i rows) ≡ i = length-take-le i rows (omega arith) in
    let others : All (λ (r : Row). IsSameVersion row r → ⊥) (take i rows) =
    λ k d within same'.
    let less : k < i = (let w : k < length (take i rows) = within in omega arith) in
    let at : get_or (take i rows) k d ≡ get_or rows k row =
    get_or-take i rows k d less ∙ any-default rows k d row (omega arith) in
    let there : IsSameVersion (get_or rows i row) (get_or rows k row) =
    subst (λ r. IsSameVersion r (get_or rows k row)) is (subst (λ r. IsSameVersion row r) at same') in
    apart rows (ascending_rows_are_a_row_set rows up) k i row less lt
    (record { key = sym there.key; stamp = sym there.stamp; node = sym there.node }) in
    All-contains (λ (r : Row). IsSameVersion row r → ⊥) table other
    (All-permutation (λ (r : Row). IsSameVersion row r → ⊥) (take i rows) table moved others) m same

-- the next of ascending rows, after those before it are stored, is of a new version
pub fresh-next : (rows done rest : List Row) (row : Row) (table : List Row) → RowsAscend rows
    → done ++ row ∷ rest ≡ rows → IsPermutation done table → HasNoVersion table row
fresh-next rows done rest row table up is moved =
    let l : length (done ++ row ∷ rest) ≡ length done + length (row ∷ rest) = length-append done (row ∷ rest) in
    fresh-row (done ++ row ∷ rest) (length done) row table (subst RowsAscend (sym is) up) (omega arith)
    (sym (get_or-append_seam done row rest row))
    (subst (λ xs. IsPermutation xs table) (sym (take-append_seam done (row ∷ rest))) moved)

pub row-more : (rows : List Row) (i : ℕ) (row : Row) (table new : List Row) → i < length rows
    → row ≡ get_or rows i row → IsPermutation (take i rows) table → IsPermutation (table ++ row ∷ []) new
    → IsPermutation (take (i + 1) rows) new
row-more rows i row table new lt is moved step =
    subst (λ xs. IsPermutation xs new) (sym (take_more rows i row lt ∙ ap (λ r. take i rows ++ r ∷ []) (sym is)))
    (IsPermutation-trans _ _ _ (IsPermutation-append_left (row ∷ []) (take i rows) table moved) step)

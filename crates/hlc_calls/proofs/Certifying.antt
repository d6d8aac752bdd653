-- The certificate of stored rows is one: a check of its text shows that they are the fewest, and what they cost.
use Rattle.std.proofs.Common.{◌≡◌, ℕ, List, length, ap, sym, ◌∙◌, subst, ◌⊎◌, inl, inr, IsPermutation}
use Rattle.std.proofs.lemmas.List.Sorted.{length_permutation, sum_by-IsPermutation}
use Rattle.hlc_rows.specs.declared.row.Row.{Row}
use Rattle.hlc_witness.specs.{Certificate.IsCertificate, Cost.rows_cost, Cost.row_cost}
use Rattle.hlc_vacuum_draft.specs.{Vacuumed.rows_to, declared.report.Report.Report}
use Rattle.hlc_text.specs.Lines.{lines_of}
use Rattle.hlc_certificate.specs.{CertificateText.certificate_text, declared.check.CheckEnd.CheckEnd}
use Rattle.hlc_certificate.specs.{CheckLine.AreLinesOf, Check.MayEnd}
use Rattle.hlc_certificate.specs.declared.check.CheckEnd.TheVariants.{Fewest, NotShown, BadLine, NoMemory}
use Rattle.hlc_certificate.proofs.ReadBackLemmas.{printed_ends_fewest}
use Rattle.hlc_core.specs.{Past.Step, Calls.AreRowsTo, StoreView.StoreView, Certified.IsCertified}
use Rattle.hlc_calls.specs.{Answers.narrowed, Certified.IsShown}

same-count : (count bytes n k : ℕ) → (Fewest n k ≡ Fewest count bytes) ⊎ (Fewest n k ≡ NoMemory)
    → (n ≡ count) × (k ≡ bytes)
same-count count bytes n k (inl same) = (cc, cc)
same-count count bytes n k (inr lost) = absurd cc

-- a text whose check ends so shows this many rows
ends-shown : (text : List ℕ) (count bytes : ℕ)
    → ((end : CheckEnd) → MayEnd text end → (end ≡ Fewest count bytes) ⊎ (end ≡ NoMemory))
    → IsShown text count (narrowed bytes)
ends-shown text count bytes ends code rows cost word (inl (ok, none, (k, shows, is))) =
    let same = same-count count bytes rows k (ends (Fewest rows k) shows) in
    inl (ok, same.0, is ∙ ap narrowed same.1)
ends-shown text count bytes ends code rows cost word (inr (inl (refused, bare, (reason, shows, is)))) =
    elim (ends (NotShown reason) shows) [ inl same ↦ absurd cc | inr lost ↦ absurd cc ]
ends-shown text count bytes ends code rows cost word (inr (inr (inl (bad, bare, first)))) =
    elim (ends (BadLine word) first) [ inl same ↦ absurd cc | inr lost ↦ absurd cc ]
ends-shown text count bytes ends code rows cost word (inr (inr (inr (lack, bare, none, good)))) = inr lack

pub certificate-shown : (core : StoreView) (at : ℕ) (past : List Step) (report : Report) (rows : List Row)
    (text : List ℕ) → IsCertified core at past report → AreRowsTo core.rows at rows
    → AreLinesOf report.points rows report.witnesses (lines_of text)
    → text ≡ certificate_text report.points rows report.witnesses
    → IsShown text report.kept (narrowed report.bytes)
certificate-shown core at past report rows text is are lines printed =
    let fewest = is.vacuums.fewest in
    let at_stamp : report.floor ≡ at = is.vacuums.expected.at_stamp in
    let moved : IsPermutation (rows_to report.floor core.rows) rows =
    subst (λ f. IsPermutation (rows_to f core.rows) rows) (sym at_stamp) are.same in
    let certificate : IsCertificate rows report.points report.witnesses = fewest.certified rows moved are.ascend in
    let number : length rows ≡ report.kept =
    length_permutation (rows_to report.floor core.rows) rows moved ∙ fewest.count in
    let cost : rows_cost rows ≡ report.bytes =
    sum_by-IsPermutation row_cost (rows_to report.floor core.rows) rows moved ∙ fewest.cost in
    let shown : IsShown text (length rows) (narrowed (rows_cost rows)) =
    ends-shown text (length rows) (rows_cost rows)
    (subst (λ t. (end : CheckEnd) → MayEnd t end → (end ≡ Fewest (length rows) (rows_cost rows)) ⊎ (end ≡ NoMemory))
    (sym printed)
    (printed_ends_fewest report.points rows report.witnesses
    (subst (λ t. AreLinesOf report.points rows report.witnesses (lines_of t)) printed lines) certificate)) in
    subst (λ n. IsShown text n (narrowed report.bytes)) number
    (subst (λ b. IsShown text (length rows) (narrowed b)) cost shown)

-- What is printed is read back, and where witnesses show that the rows are the fewest, this is the only answer.
use Rattle.std.proofs.Common.{ℕ, ap, refl, List, length, get_or, arith, inl, inr, ◌≢◌}
use Rattle.hlc_rows.specs.declared.row.Row.{Row as ARow}
use Rattle.hlc_witness.specs.{declared.witness.Witness.Witness as AWitness, Certificate.IsCertificate, Cost.rows_cost}
use Rattle.hlc_witness.proofs.CertificateLemmas.{certificates_show_fewest, certificates_show_cheapest}
use Rattle.hlc_certificate.specs.declared.check.CheckEnd.TheVariants.{Fewest, NotLoaded}
use Rattle.hlc_text.specs.{declared.input.InputFault.TheVariants.ReadFault, Lines.lines_of}
use Rattle.hlc_certificate.specs.{CheckLine.all_said, CheckLine.AreLinesOf, Check.MayAnswer, Check.ShowsFewest}
use Rattle.hlc_certificate.specs.{CertificateText.certificate_text, OneAnswer.ReportsNoMemory}
use Rattle.hlc_certificate.specs.ReadBack.{PrintedIsRead, PrintedShowsFewest, PrintedEndsFewest}
use Rattle.hlc_certificate.proofs.{PrintedLines.lines_again, OneAnswer.one_answer, OneAnswer.ends_fewest}

pub printed_is_read : PrintedIsRead
printed_is_read points rows witnesses has = (has, lines_again (all_said points rows witnesses) has)

-- that rows are the fewest reports no failed read, and no out of memory
read_well : (count bytes : ℕ) → Fewest count bytes ≢ NotLoaded ReadFault
read_well count bytes same = cc

reports_more : (count bytes : ℕ) → ReportsNoMemory (Fewest count bytes) → ⊥
reports_more count bytes is = absurd (omega (arith, ap (λ (text : List ℕ). get_or text 0 0) is))

-- the printed lines show it
printed_lines_show : (points : List ℕ) (rows : List ARow) (witnesses : List AWitness)
    → AreLinesOf points rows witnesses (lines_of (certificate_text points rows witnesses))
    → IsCertificate rows points witnesses
    → ShowsFewest (lines_of (certificate_text points rows witnesses)) (length rows) (rows_cost rows)
printed_lines_show points rows witnesses lines certificate = record {
  points = points;
  rows = rows;
  witnesses = witnesses;
  lines_are = lines;
  certificate = certificate;
  fewest = certificates_show_fewest rows points witnesses certificate;
  count_is = refl;
  cheapest = certificates_show_cheapest rows points witnesses certificate;
  bytes_is = refl;
}

pub printed_ends_fewest : PrintedEndsFewest
printed_ends_fewest points rows witnesses lines certificate end may =
    ends_fewest (certificate_text points rows witnesses) (length rows) (rows_cost rows) end
    (printed_lines_show points rows witnesses lines certificate) may

pub printed_shows_fewest : PrintedShowsFewest
printed_shows_fewest points rows witnesses lines certificate fits end may well =
    let text = certificate_text points rows witnesses in
    let expected : MayAnswer text (Fewest (length rows) (rows_cost rows)) =
    (fits, printed_lines_show points rows witnesses lines certificate) in
    elim (one_answer text end (Fewest (length rows) (rows_cost rows)) may expected well
    (read_well (length rows) (rows_cost rows))) [
      | inl same ↦ inl same
      | inr (inl lost) ↦ inr lost
      | inr (inr other) ↦ absurd (reports_more (length rows) (rows_cost rows) other)
    ]

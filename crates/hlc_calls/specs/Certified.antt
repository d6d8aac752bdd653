-- How the certificate of the rows at or below a stamp is returned.
use Rattle.std.specs.Prelude.{◌≡◌, ◌⊎◌, ℕ, List, Ok, Err}
use Rattle.hlc_rows.specs.declared.row.Row.{Row}
use Rattle.hlc_vacuum_draft.specs.declared.report.Report.{Report}
use Rattle.hlc_events.specs.declared.certificate_fault.CertificateFault.{CertificateFault}
use Rattle.hlc_events.specs.Faults.{certificate_fault_code, certificate_fault_word}
use Rattle.hlc_core.specs.{Past.Step, Calls.AreRowsTo, StoreView.StoreView, Certified.Certifies}
use Rattle.hlc_certificate.specs.CertificateText.{certificate_text}
use Rattle.hlc_calls.specs.{Answers.narrowed, Check.ReturnsCheck}

-- a check of the text shows that this many rows are the fewest, and their cost; or memory runs out for it
abbrev pub IsShown : List ℕ → ℕ → ℕ → Type 0
IsShown text kept bytes = (code rows cost word : ℕ) → ReturnsCheck text code rows cost word
    → ((code ≡ 0) × (rows ≡ kept) × (cost ≡ bytes)) ⊎ (code ≡ 15)

-- these rows are certified: how many they are and what they cost is returned, and the text of the certificate, which a
-- check accepts
pub record ReturnsCertificate (core : StoreView) (at : ℕ) (past : List Step) (word kept bytes : ℕ)
    (text : List ℕ) : Type 0 where
  pub report : Report
  pub rows : List Row
  pub certifies : Certifies core at past (Ok report)
  pub are_rows : AreRowsTo core.rows at rows
  pub no_word : word ≡ 0
  pub number : kept ≡ report.kept
  pub cost : bytes ≡ narrowed report.bytes
  pub printed : text ≡ certificate_text report.points rows report.witnesses
  pub shown : IsShown text kept bytes

-- they are not, for this reason, whose number and word are returned
abbrev pub ReturnsNoCertificate : StoreView → ℕ → List Step → ℕ → ℕ → Type 0
ReturnsNoCertificate core at past code word =
    (fault : CertificateFault) × Certifies core at past (Err fault)
    × (code ≡ certificate_fault_code fault) × (word ≡ certificate_fault_word fault)

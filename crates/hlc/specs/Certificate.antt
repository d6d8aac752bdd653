-- The words in which contracts speak of certificates.
pub use Rattle.hlc_witness.specs.declared.witness.Witness.{Witness}
pub use Rattle.hlc_witness.specs.Changes.{AreChanges}
pub use Rattle.hlc_witness.specs.Certificate.{IsCertificate}
pub use Rattle.hlc_witness.specs.Shown.{ShownView}
pub use Rattle.hlc_certificate.specs.CertificateText.{certificate_text}
pub use Rattle.hlc_certificate.specs.Check.{MayEnd}
pub use Rattle.hlc_certificate.specs.ReadBack.{IsAnsweredFewest, EndsFewest}

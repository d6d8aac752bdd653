pub mod CheckLine
pub mod CheckLists
pub mod CertificateText
pub mod Check
pub mod OneAnswer
pub mod ReadBack

pub mod Entered
pub mod Certifying
pub mod Refusals
pub mod Holders
pub mod Logs
pub mod Readings
pub mod ResumedLemmas
pub mod Digests

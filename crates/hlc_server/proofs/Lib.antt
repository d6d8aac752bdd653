pub mod Histories
pub mod Settlings
pub mod Callers

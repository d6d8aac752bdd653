pub mod RegistryView
pub mod Faults

pub mod IntakeView
pub mod Faults

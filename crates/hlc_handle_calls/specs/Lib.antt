pub mod Opening
pub mod Outputs
pub mod Restorings
pub mod Savings
pub mod Views

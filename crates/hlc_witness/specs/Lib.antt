pub mod Fewest
pub mod Changes
pub mod AllChanges
pub mod Certificate
pub mod Reasons
pub mod Reached
pub mod Cost
pub mod Shown

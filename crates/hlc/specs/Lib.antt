pub mod Certificate
pub mod Node
pub mod Ranges
pub mod Store
pub mod Text

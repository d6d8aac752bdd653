pub mod Lending
pub mod LentValues
pub mod Promise
pub mod Rooms
pub mod Values
mod Crossing
mod Handles
mod LentWords
mod Slots

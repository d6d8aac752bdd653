pub mod Found
pub mod Printed

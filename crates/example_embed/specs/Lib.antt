pub mod Fed
pub mod Printed

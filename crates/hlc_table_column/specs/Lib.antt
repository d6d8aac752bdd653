pub mod Cells
pub mod Rows
pub mod Versions
pub mod Forms

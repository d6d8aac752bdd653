pub mod Listing
pub mod Scan
pub mod Changes
pub mod Versions

pub mod Record
pub mod Log
pub mod Recovery
pub mod Places

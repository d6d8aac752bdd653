pub mod ByteLemmas
pub mod PairLemmas
pub mod ScanLemmas
pub mod RoomLemmas
pub mod Differing
pub mod Rowing

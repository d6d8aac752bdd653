pub mod StoreView
pub mod Sorted
pub mod Checkpoint
pub mod RestoreFaults
pub mod Lent
pub mod Growing

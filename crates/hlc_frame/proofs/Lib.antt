pub mod ListLemmas
pub mod FrontLemmas
pub mod SealedLemmas
pub mod RestLemmas
pub mod FrameLemmas
pub mod BlockLemmas

pub mod AlikeLemmas
pub mod ReplicaLemmas
pub mod GoesOnLemmas
pub mod FaithfulFrom
pub mod PlaceLemmas
pub mod RaiseLemmas

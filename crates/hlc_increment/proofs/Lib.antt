pub mod AgreeLemmas
pub mod LaterLemmas
pub mod AdvanceLemmas
pub mod BackLemmas
pub mod BytesLemmas

pub mod Vacuumed
pub mod Plan
pub mod Report
pub mod Draft
pub mod KeyPlan
pub mod Gaps

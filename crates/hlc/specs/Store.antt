-- The words in which the contracts of a store speak.
pub use Rattle.hlc_core.specs.Past.{Step, Started, Began, Took, Joined, Opened, Closed, Vacuumed, PartVacuumed}
pub use Rattle.hlc_core.specs.Past.{initial_nodes, numbered, count, head, retired, top, floor, horizon, vacuumed}
pub use Rattle.hlc_core.specs.Past.{part_dropped}
pub use Rattle.hlc_core.specs.Past.{last_id, open_snapshots, writes, stamp_of, item_refusal, join_refusal, open_refusal}
pub use Rattle.hlc_core.specs.Past.{join_at_refusal, room_refusal, vacuum_refusal, IsLegal}
pub use Rattle.hlc_core.specs.Replicas.{items_of, joins_of, begun, AreReplicas, CanMeet}
pub use Rattle.hlc_core.specs.From.{RepresentsFrom, IsFaithfulFrom}
pub use Rattle.hlc_replicas.specs.Places.{log_of}
pub use Rattle.hlc_core.specs.StoreView.{StoreView, Represents}
pub use Rattle.hlc_core.specs.Calls.{IsWrite, IsRefusal, IsListed, AreRowsTo, AreSizes, AreVersions, Vacuums}
pub use Rattle.hlc_core.specs.Certified.{Certifies, IsCertified, AreNotFewest}
pub use Rattle.hlc_core.specs.Differences.{AreDifferences, Compares, patched}
pub use Rattle.hlc_core.specs.Parts.{rows_of_keys, IsPartReport, VacuumsKeys, EndsAt, VacuumsPart}
pub use Rattle.hlc_core.specs.Stored.{AreVacuumPoints, IsReport}
pub use Rattle.hlc_vacuum_parts.specs.Pass.{Part, ArePass, left_by, together, report_of}
pub use Rattle.hlc_events.specs.Faults.{core_code, core_word, certificate_fault_code, certificate_fault_word}
pub use Rattle.hlc_events.specs.declared.fault.CoreFault.{CoreFault}
pub use Rattle.hlc_events.specs.declared.certificate_fault.CertificateFault.{CertificateFault}
pub use Rattle.hlc_increment.specs.Increment.{IncrementView, IsIncrementOf, IsAdvanced, without_drops}

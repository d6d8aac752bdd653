-- The refusals of a core: the number, the word and the text of each, those that are made of the refusals of its parts,
-- and why there is no certificate.
use Rattle.std.specs.Prelude.{ℕ, List, ◌++◌, codes}
use Rattle.hlc_clock.specs.Stamp.{stamp_text}
use Rattle.hlc_heads.specs.Faults.{join_code, join_word, join_text}
use Rattle.hlc_intake.specs.Faults.{link_code, link_word, link_text}
use Rattle.hlc_rows.specs.Faults.{body_code, body_text}
use Rattle.hlc_snapshot.specs.{Faults.snapshot_code, Faults.snapshot_text, declared.fault.SnapshotFault.SnapshotFault}
use Rattle.hlc_events.specs.declared.{fault.CoreFault.CoreFault, certificate_fault.CertificateFault.CertificateFault}
use Rattle.hlc_events.specs.declared.fault.CoreFault.TheVariants.{NoNode, Link, Body, Join, AboveFloor, BelowHorizon}
use Rattle.hlc_events.specs.declared.fault.CoreFault.TheVariants.{Snapshot, NoSnapshot, NoMemory}
use Rattle.hlc_events.specs.declared.certificate_fault.CertificateFault.TheVariants.{Vacuum, NotFewest}
use Rattle.hlc_snapshot.specs.declared.fault.SnapshotFault.TheVariants as snapshot_fault

-- the number of a refusal
abbrev pub core_code : CoreFault → ℕ
core_code NoNode = 1
core_code (Link fault) = link_code fault
core_code (Body fault) = body_code fault
core_code (Join fault) = join_code fault
core_code (AboveFloor floor) = 8
core_code (BelowHorizon horizon) = 9
core_code (Snapshot fault) = snapshot_code fault
core_code NoSnapshot = 10
core_code NoMemory = 15

-- the number or the word of the stamp in it, 0 if there is neither
abbrev pub core_word : CoreFault → ℕ
core_word NoNode = 0
core_word (Link fault) = link_word fault
core_word (Body fault) = 0
core_word (Join fault) = join_word fault
core_word (AboveFloor floor) = floor
core_word (BelowHorizon horizon) = horizon
core_word (Snapshot fault) = 0
core_word NoSnapshot = 0
core_word NoMemory = 0

-- its text
abbrev pub core_text : CoreFault → List ℕ
core_text NoNode = codes "no such node, or not 1 to 64 nodes"
core_text (Link fault) = link_text fault
core_text (Body fault) = body_text fault
core_text (Join fault) = join_text fault
core_text (AboveFloor floor) = codes "the stamp is above the floor, " ++ stamp_text floor
core_text (BelowHorizon horizon) = codes "the stamp is below that of the last vacuum, " ++ stamp_text horizon
core_text (Snapshot fault) = snapshot_text fault
core_text NoSnapshot = codes "no open snapshot has that id"
core_text NoMemory = codes "out of memory"

-- a registry's fault, as a fault of the core: out of memory is the core's own
abbrev pub of_registry : SnapshotFault → CoreFault
of_registry snapshot_fault.NoMemory = NoMemory
of_registry fault = Snapshot fault

-- the number of the reason why there is no certificate
abbrev pub certificate_fault_code : CertificateFault → ℕ
certificate_fault_code (Vacuum fault) = core_code fault
certificate_fault_code NotFewest = 109

-- the stamp in it, 0 if there is none
abbrev pub certificate_fault_word : CertificateFault → ℕ
certificate_fault_word (Vacuum fault) = core_word fault
certificate_fault_word NotFewest = 0

-- its text
abbrev pub certificate_fault_text : CertificateFault → List ℕ
certificate_fault_text (Vacuum fault) = core_text fault
certificate_fault_text NotFewest = codes "a row at or below the stamp would be dropped"

-- The places of stores in a log that they share, and the stamps at which a store can be read.
use Rattle.std.specs.Prelude.{◌≡◌, ◌≤◌, ◌⊎◌, ◌++◌, ℕ, List, Contains}
use Rattle.hlc_snapshot.specs.RegistryView.{stamps}
use Rattle.hlc_checkpoint.specs.Checkpoint.{floor_in}
use Rattle.hlc_core.specs.{Past.Step, StoreView.StoreView}
use Rattle.hlc_replicas.specs.Places.{log_of}
use Rattle.hlc_log.specs.{declared.record.Record.Record, Log.with_records}

-- A store with this past has taken these records since a start: the items and the joins that it took are theirs, in
-- their order. It may have opened and closed snapshots, and been vacuumed, anywhere between.
abbrev pub HasTaken : List Step → List Record → List Step → Type 0
HasTaken start records past = log_of past ≡ log_of (with_records records start)

-- it has taken the records of a log up to some place
pub record IsAt (start : List Step) (log : List Record) (past : List Step) : Type 0 where
  pub taken : List Record
  pub left : List Record
  pub parts : log ≡ taken ++ left
  pub has : HasTaken start taken past

-- a store can be read at a stamp: at or below its floor, and from its horizon on or at a snapshot that it has open
pub record CanRead (kept : StoreView) (stamp : ℕ) : Type 0 where
  pub low : stamp ≤ floor_in kept
  pub shown : (kept.horizon ≤ stamp) ⊎ Contains (stamps kept.snapshots) stamp

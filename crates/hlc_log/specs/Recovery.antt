-- A store from the bytes of a checkpoint and those of a log.
use Rattle.std.specs.Prelude.{◌≡◌, ℕ, List}
use Rattle.hlc_core.specs.{Past.Step, StoreView.StoreView, StoreView.Represents}
use Rattle.hlc_checkpoint.specs.Checkpoint.{IsCopyOf}
use Rattle.hlc_saved.specs.Saved.{AreOf}
use Rattle.hlc_log.specs.{declared.recovery.Recovered.Recovered, Log.AreApplied}

-- A store was recovered: the bytes are the encoding of the tag and of a checkpoint, a store was made with exactly its
-- state, and the records of the log were applied to that store; where there were none, it is as it was made.
pub record IsRecovered (checkpoint log : List ℕ) (made : Recovered) : Type 0 where
  pub kept : StoreView
  pub saved : AreOf checkpoint made.tag kept
  pub restored : StoreView
  pub copy : IsCopyOf kept restored
  pub none : made.applied.records ≡ 0 → made.core ≡ restored
  pub applied : (past : List Step) → Represents restored past → AreApplied made.core log past 0 made.applied

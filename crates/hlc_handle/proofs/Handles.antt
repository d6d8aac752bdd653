-- The handles of a box, one for each type that is in one.
use Rattle.std.{proofs.Common.refl, specs.Prelude.is_some}
use Rattle.hlc_handle.{specs.Rows.bytes_row, proofs.Slots.Slot}
use Rattle.hlc_core.specs.contracts.store.Core as core
use Rattle.hlc_saved.specs.contracts.reader.CheckpointReader as reader
use Rattle.hlc_saved.specs.contracts.savings.Saver as saver
use Rattle.hlc_handle.specs.contracts.output.Output as the_output
use Rattle.hlc_handle.specs.contracts.restoring.Restoring as the_restoring
use Rattle.hlc_handle.specs.contracts.saving.Saving as the_saving
use Rattle.hlc_handle.specs.contracts.store.Store as the_store

abbrev pub store : Slot core.the_row
store = record {
  struct = the_store.the_type;
  at = λ d. d.at;
  live = λ d. d.live;
  value = λ d. d.value;
  same = λ d. d.same;
  make = λ p v. record { at = p; live = is_some v; value = v; same = refl };
  made = λ p v. (refl, refl);
  owned = λ d. refl;
}

abbrev pub output : Slot bytes_row
output = record {
  struct = the_output.the_type;
  at = λ d. d.at;
  live = λ d. d.live;
  value = λ d. d.value;
  same = λ d. d.same;
  make = λ p v. record { at = p; live = is_some v; value = v; same = refl };
  made = λ p v. (refl, refl);
  owned = λ d. refl;
}

abbrev pub restoring : Slot reader.the_row
restoring = record {
  struct = the_restoring.the_type;
  at = λ d. d.at;
  live = λ d. d.live;
  value = λ d. d.value;
  same = λ d. d.same;
  make = λ p v. record { at = p; live = is_some v; value = v; same = refl };
  made = λ p v. (refl, refl);
  owned = λ d. refl;
}

abbrev pub saving : Slot saver.the_row
saving = record {
  struct = the_saving.the_type;
  at = λ d. d.at;
  live = λ d. d.live;
  value = λ d. d.value;
  same = λ d. d.same;
  make = λ p v. record { at = p; live = is_some v; value = v; same = refl };
  made = λ p v. (refl, refl);
  owned = λ d. refl;
}

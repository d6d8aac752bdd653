-- The row is stored under its own key.
use Rattle.hlc_checkpoint.proofs.restoring.add_row.Goals as goal

pub insert_ascending-requires : goal.insert_ascending-requires
insert_ascending-requires c = rw c.as_slice.ensures c.requires

-- The right to read a core may go to another thread, since the core may be read by several.
use denote.Param.Send.{IsSend, owning_send}
use Rattle.hlc_core.specs.contracts.store.Core as core
use Rattle.hlc_core.proofs.store.Core.TheSendSync as crossing
use Rattle.hlc_handle.specs.contracts.reader.LentRoom.{the_row, the_type}
use Rattle.hlc_handle.proofs.Crossing.{pointer_send, lent_keyless}

pub send : IsSend the_row
send =
    owning_send the_type (pointer_send, tt)
    (λ r. lent_keyless core.the_row crossing.the_sync r.at r.value) (λ k x w. tt)

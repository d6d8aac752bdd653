-- A store may go to another thread, as the core that it owns may.
use denote.Param.Send.{IsSend, owning_send}
use Rattle.hlc_core.specs.contracts.store.Core as core
use Rattle.hlc_core.proofs.store.Core.TheSendSync as crossing
use Rattle.hlc_handle.specs.contracts.store.Store.{the_row, the_type}
use Rattle.hlc_handle.proofs.Crossing.{pointer_send, flag_send, slot_keyless}

pub send : IsSend the_row
send =
    owning_send the_type (pointer_send, (flag_send, tt))
    (λ d. slot_keyless core.the_row crossing.the_send d.at d.value) (λ k x w. tt)

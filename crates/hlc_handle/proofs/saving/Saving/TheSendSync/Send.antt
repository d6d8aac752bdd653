-- A saving that is under way may go to another thread.
use denote.Param.Send.{IsSend, owning_send}
use Rattle.hlc_saved.specs.contracts.savings.Saver as saver
use Rattle.hlc_saved.proofs.savings.Saver.TheSendSync as crossing
use Rattle.hlc_handle.specs.contracts.saving.Saving.{the_row, the_type}
use Rattle.hlc_handle.proofs.Crossing.{pointer_send, flag_send, slot_keyless}

pub send : IsSend the_row
send =
    owning_send the_type (pointer_send, (flag_send, tt))
    (λ d. slot_keyless saver.the_row crossing.the_send d.at d.value) (λ k x w. tt)

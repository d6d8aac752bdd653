-- A restore that is under way may go to another thread.
use denote.Param.Send.{IsSend, owning_send}
use Rattle.hlc_saved.specs.contracts.reader.CheckpointReader as reader
use Rattle.hlc_saved.proofs.reader.CheckpointReader.TheSendSync as crossing
use Rattle.hlc_handle.specs.contracts.restoring.Restoring.{the_row, the_type}
use Rattle.hlc_handle.proofs.Crossing.{pointer_send, flag_send, slot_keyless}

pub send : IsSend the_row
send =
    owning_send the_type (pointer_send, (flag_send, tt))
    (λ d. slot_keyless reader.the_row crossing.the_send d.at d.value) (λ k x w. tt)

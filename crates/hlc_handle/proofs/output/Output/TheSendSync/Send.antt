-- The bytes that a call made may go to another thread.
use denote.Param.Send.{IsSend, owning_send}
use Rattle.hlc_handle.specs.{Rows.bytes_row, contracts.output.Output.the_row, contracts.output.Output.the_type}
use Rattle.hlc_handle.proofs.Crossing.{pointer_send, flag_send, bytes_send, slot_keyless}

pub send : IsSend the_row
send =
    owning_send the_type (pointer_send, (flag_send, tt))
    (λ d. slot_keyless bytes_row bytes_send d.at d.value) (λ k x w. tt)

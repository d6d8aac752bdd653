-- What a handle owns is the same in every thread.
use Rattle.std.specs.{Prelude.[], Prelude.◌∷◌, Prelude.Option, Prelude.Some, Prelude.None, Borrow.u8}
use mir.Raw.{raw}
use base.Shift.{Keyless}
use denote.{RattleType.RattleType, Memory.lone, RawPtr.Ptr, Builtin.RawPtr, Builtin.bool}
use denote.Param.Send.{IsSend, IsSync, sendable}
use Rattle.std.proofs.Crossing.{frees, Vec-send}
use Rattle.std_alloc.proofs.SendSync.{lies, seen}
use Rattle.hlc_handle.specs.{Slot.slot_owns, Rows.bytes_row, Lent.Loan, Lent.lent_room_owns}

pub pointer_send : IsSend RawPtr
pointer_send = search sendable

pub flag_send : IsSend bool
flag_send = search sendable

byte_send : IsSend u8
byte_send = search sendable

pub bytes_send : IsSend bytes_row
bytes_send = Vec-send u8 byte_send

pub slot_keyless : (R : RattleType) → IsSend R → (at : Ptr) (value : Option R.Denot) → Keyless (slot_owns R at value)
slot_keyless R s at (Some value) = (lies R s at value, frees.frees _ (raw (lone R.mir)) at)
slot_keyless R s at None = tt

pub lent_keyless : (R : RattleType) → IsSync R → (at : Ptr) (value : Option (Loan R))
    → Keyless (lent_room_owns R at value)
lent_keyless R s at (Some loan) = ((λ share counts. tt), seen R s at loan.1 (loan.0 ∷ []))
lent_keyless R s at None = tt

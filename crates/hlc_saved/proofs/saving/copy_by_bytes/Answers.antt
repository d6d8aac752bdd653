-- The bytes represent the past of the store, and the copy represents the past of the bytes.
use Rattle.std.proofs.Common.{subst, sym}
use Rattle.hlc_saved.specs.Saved.{BytesRepresent}
use Rattle.hlc_saved.proofs.saving.copy_by_bytes.Goals as goal

pub returns-in-Ok : goal.returns-in-Ok
returns-in-Ok c = λ past h.
    c.in-Ok.ensures.represents 0 past
    (subst (λ bytes. BytesRepresent bytes 0 past) (sym c.as_slice.ensures.value)
    (c.in_ok-bytes.ensures.represents past h))

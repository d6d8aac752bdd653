-- Why nothing is written.
use Rattle.std.specs.Prelude.{◌≡◌, Option, Some, None}
use Rattle.hlc_rows.specs.declared.limits.BodyFault.{BodyFault}
use Rattle.hlc_wire.specs.declared.fault.EncodeError.{EncodeError, TheVariants.BadBody, TheVariants.NoMemory}

-- the expected reason; or out of memory, if none is expected
abbrev pub IsRefusal : Option BodyFault → EncodeError → Type 0
IsRefusal expected (BadBody fault) = expected ≡ Some fault
IsRefusal expected NoMemory = expected ≡ None

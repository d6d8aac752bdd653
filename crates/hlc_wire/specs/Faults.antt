-- The number and the text of each fault.
use Rattle.std.specs.Prelude.{ℕ, List, codes}
use Rattle.hlc_rows.specs.Faults.{body_text}
use Rattle.hlc_wire.specs.declared.fault.{WireFault.WireFault, DecodeError.DecodeError, EncodeError.EncodeError}
use Rattle.hlc_wire.specs.declared.fault.WireFault.TheVariants.{Short, Version, Kind, EmptyKey, Flag, Trailing, Damaged}
use Rattle.hlc_wire.specs.declared.fault.DecodeError.TheVariants as decoding
use Rattle.hlc_wire.specs.declared.fault.EncodeError.TheVariants as encoding

-- the number of a fault in outputs
abbrev pub fault_code : WireFault → ℕ
fault_code Short = 1
fault_code Version = 2
fault_code Kind = 3
fault_code EmptyKey = 4
fault_code Flag = 5
fault_code Trailing = 6
fault_code Damaged = 7

-- the text of a fault
abbrev pub fault_text : WireFault → List ℕ
fault_text Short = codes "the bytes end within a field"
fault_text Version = codes "the version is not 1"
fault_text Kind = codes "the kind of item is not known"
fault_text EmptyKey = codes "a key has no bytes"
fault_text Flag = codes "a flag is neither 0 nor 1"
fault_text Trailing = codes "bytes follow the last field"
fault_text Damaged = codes "the digest at the end is not that of the bytes before it"

abbrev pub decode_text : DecodeError → List ℕ
decode_text decoding.NoMemory = codes "out of memory"
decode_text (decoding.Fault fault) = fault_text fault

abbrev pub encode_text : EncodeError → List ℕ
encode_text (encoding.BadBody fault) = body_text fault
encode_text encoding.NoMemory = codes "out of memory"

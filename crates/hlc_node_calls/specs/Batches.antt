-- The writes of a batch that C passes as their number and their bytes.
use Rattle.std.specs.Prelude.{ℕ, List, nat_lt, Result, Ok, Err, if◌then◌else◌}
use Rattle.hlc_rows.specs.declared.{limits.TheConstants.MAX_WRITES, write.Write.Write}
use Rattle.hlc_wire.specs.{declared.fault.WireFault.WireFault, Faults.fault_code, Reading.writes_at, Reading.whole}

-- the writes that were read; or 106 and the first fault of the bytes
abbrev pub coded : Result (List Write) WireFault → Result (List Write) (ℕ × ℕ)
coded (Ok writes) = Ok writes
coded (Err fault) = Err (106, fault_code fault)

-- this many writes from all of the bytes; or the number of the refusal and its word: 29 and 0 for more than 256
abbrev pub batch_in : ℕ → List ℕ → Result (List Write) (ℕ × ℕ)
batch_in count bytes = if nat_lt MAX_WRITES count then Err (29, 0) else coded (whole (writes_at count bytes))

-- A stamp, as its word: a number below 2^64.
use Rattle.std.specs.Prelude.{ℕ, ◌/◌, ◌%◌, List, ◌∷◌, ◌++◌, decimal}
use Rattle.hlc_clock.specs.declared.stamp.TheConstants.{COUNTER_BOUND}

-- the physical part of a stamp
abbrev pub physical : ℕ → ℕ
physical stamp = stamp / COUNTER_BOUND

-- the counter of a stamp
abbrev pub counter : ℕ → ℕ
counter stamp = stamp % COUNTER_BOUND

-- a stamp as text: its parts in decimal, with a full stop between
abbrev pub stamp_text : ℕ → List ℕ
stamp_text stamp = decimal (physical stamp) ++ 46 ∷ decimal (counter stamp)

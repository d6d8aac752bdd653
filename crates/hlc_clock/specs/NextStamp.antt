-- The rule of the clock: the stamp of an event, from the stamps of earlier events and a reading.
use Rattle.std.specs.Prelude.{ℕ, ◌+◌, ◌*◌, ◌<◌, ◌≤◌, List, [], ◌∷◌, All, max, Contains, Bool, true, ◌&&◌, nat_lt}
use Rattle.std.specs.Prelude.{nat_le, if◌then◌else◌, Result, Ok, Err}
use Rattle.hlc_clock.specs.declared.stamp.TheConstants.{READING_BOUND, COUNTER_BOUND}
use Rattle.hlc_clock.specs.Stamp.{physical}
use Rattle.hlc_clock.specs.declared.clock.ClockFault.{ClockFault, TheVariants.ReadingTooLarge, TheVariants.CounterFull}

-- the stamp is above every earlier one, and not below the reading
pub record IsAfter (earlier : List ℕ) (reading stamp : ℕ) : Type 0 where
  pub above : All (λ other. other < stamp) earlier
  pub not_below : COUNTER_BOUND * reading ≤ stamp

-- it is the least such stamp
pub record IsNext (earlier : List ℕ) (reading stamp : ℕ) : Type 0 where
  pub after : IsAfter earlier reading stamp
  pub least : (other : ℕ) → IsAfter earlier reading other → stamp ≤ other

-- the counter overflowed into the physical part, which exceeds the reading and the physical part of each earlier stamp
pub record IsCarried (earlier : List ℕ) (reading stamp : ℕ) : Type 0 where
  pub past_reading : reading < physical stamp
  pub past_earlier : All (λ other. physical other < physical stamp) earlier

-- the greatest of some stamps
pub record IsGreatest (stamps : List ℕ) (stamp : ℕ) : Type 0 where
  pub member : Contains stamps stamp
  pub greatest : All (λ other. other ≤ stamp) stamps

-- What a clock returns. It refuses the reading if that is too large. Else, if the counter of the next stamp would
-- overflow into the physical part, it refuses the event and names the greatest earlier stamp. Else it returns the next
-- stamp.
abbrev pub IsClockAnswer : List ℕ → ℕ → Result ℕ ClockFault → Type 0
IsClockAnswer earlier reading (Err ReadingTooLarge) = READING_BOUND ≤ reading
IsClockAnswer earlier reading (Err (CounterFull at)) =
    (reading < READING_BOUND) × IsGreatest earlier at
    × ((stamp : ℕ) → IsNext earlier reading stamp → IsCarried earlier reading stamp)
IsClockAnswer earlier reading (Ok stamp) =
    (reading < READING_BOUND) × IsNext earlier reading stamp × (IsCarried earlier reading stamp → ⊥)

-- The same as a function, for definitions that compute with stamps.

-- the least number above each of some stamps
abbrev pub above : List ℕ → ℕ
above [] = 0
above (stamp ∷ stamps) = max (stamp + 1) (above stamps)

-- the greatest of some stamps, 0 if there is none
abbrev pub greatest : List ℕ → ℕ
greatest [] = 0
greatest (stamp ∷ stamps) = max stamp (greatest stamps)

-- the least stamp above each earlier one and not below the reading
abbrev pub next_stamp : List ℕ → ℕ → ℕ
next_stamp earlier reading = max (above earlier) (COUNTER_BOUND * reading)

-- each stamp's physical part is below this one
abbrev pub all_below : List ℕ → ℕ → Bool
all_below [] l = true
all_below (stamp ∷ stamps) l = nat_lt (physical stamp) l && all_below stamps l

-- the next stamp's physical part exceeds the reading and that of each earlier stamp
abbrev pub is_carried : List ℕ → ℕ → Bool
is_carried earlier reading =
    nat_lt reading (physical (next_stamp earlier reading)) && all_below earlier (physical (next_stamp earlier reading))

-- the one result that a clock may return
abbrev pub expected_stamp : List ℕ → ℕ → Result ℕ ClockFault
expected_stamp earlier reading =
    if nat_le READING_BOUND reading then Err ReadingTooLarge
    else if is_carried earlier reading then Err (CounterFull (greatest earlier))
    else Ok (next_stamp earlier reading)

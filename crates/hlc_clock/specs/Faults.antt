-- The refusals of a clock: the number, the word and the text of each.
use Rattle.std.specs.Prelude.{ℕ, List, ◌++◌, codes}
use Rattle.hlc_clock.specs.Stamp.{stamp_text}
use Rattle.hlc_clock.specs.declared.clock.ClockFault.{ClockFault, TheVariants.ReadingTooLarge, TheVariants.CounterFull}

-- the number of a refusal
abbrev pub clock_code : ClockFault → ℕ
clock_code ReadingTooLarge = 2
clock_code (CounterFull at) = 3

-- the word of the stamp in it, 0 if there is none
abbrev pub clock_word : ClockFault → ℕ
clock_word ReadingTooLarge = 0
clock_word (CounterFull at) = at

-- its text
abbrev pub clock_text : ClockFault → List ℕ
clock_text ReadingTooLarge = codes "the clock reading is 2^48 or more"
clock_text (CounterFull at) = codes "the counter has no room after " ++ stamp_text at

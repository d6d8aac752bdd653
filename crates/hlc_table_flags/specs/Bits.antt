-- The bits of a list of words, each of 64 bits, the lowest bit of the first word first.
use Rattle.std.specs.Prelude.{◌≡◌, ◌≤◌, ◌/◌, ◌%◌, ◌∷◌, [], ℕ, zero, suc, Bool, false, List, nat_eq, slice_index_or}
use Rattle.std.specs.Int.{bit_at}

-- whether the bit at a position is set
abbrev pub bit_in : List ℕ → ℕ → Bool
bit_in words at = nat_eq (bit_at (slice_index_or words (at / 64) 0) (at % 64)) 1

-- this many bits, from a position on
abbrev pub bits_in : List ℕ → ℕ → ℕ → List Bool
bits_in words from zero = []
bits_in words from (suc count) = bit_in words from ∷ bits_in words (suc from) count

-- no bit from a position on is set
abbrev pub NoneFrom : List ℕ → ℕ → Type 0
NoneFrom words from = (at : ℕ) → from ≤ at → bit_in words at ≡ false

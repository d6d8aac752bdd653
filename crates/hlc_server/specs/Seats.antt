-- What contracts know of a caller.
use Rattle.std.specs.Prelude.{ℕ}

-- a caller: its number, and how many calls its share of the ledger counts
pub record CallerView : Type 0 where
  pub number : ℕ
  pub share : ℕ

-- a caller that made no call
abbrev pub fresh_seat : ℕ → CallerView
fresh_seat number = record { number = number; share = 0 }

-- What one who reads a value beside others owns: a part of the token of a lifetime, and the value shared for that
-- lifetime. While a part is out, the lifetime does not end, so the value is not changed. The lifetime is named, so that
-- the part that comes back is the one that was lent.
use Rattle.std.specs.Prelude.{ℕ, List, [], ◌∷◌, Option, Some, None}
use base.Fml.{Lft, Fml, ftrue, fsep, flft, fhide}
use types.RcWeak.{part}
use denote.{RattleType.RattleType, Builtin.u8, Sharing.beside, Sharing.one, Sharing.held}
use denote.RawPtr.{Ptr, in_block, block_of, count_of}
use denote.{Slice.elements_shared, Struct.Lending.lent_at}

-- a lifetime, and the value that is shared for it
abbrev pub Loan : RattleType → Type 0
Loan R = ℕ × R.Denot

-- one of 2^63 parts of the token
abbrev pub lent_owns : (R : RattleType) → Ptr → Loan R → Fml
lent_owns R at loan = fsep (part 63 loan.0) (lent_at R at loan.1 (loan.0 ∷ []))

-- what a `&` to such a reader has: a share of that part, and the value
abbrev pub lent_shares : (R : RattleType) → Ptr → Loan R → Lft → Fml
lent_shares R at loan = beside (one (λ q. flft (loan.0 ∷ []) q)) (held (loan.0 ∷ []) (lent_at R at loan.1))

abbrev pub lent_room_owns : (R : RattleType) → Ptr → Option (Loan R) → Fml
lent_room_owns R at (Some loan) = lent_owns R at loan
lent_room_owns R at None = ftrue

-- what a `&` to bytes there has, for the lifetime for which they are lent: that they may be read, and are these; or
-- nothing. It may be had any number of times.
abbrev pub lent_bytes : Ptr → Option (ℕ × List ℕ) → Fml
lent_bytes at (Some lent) =
    fsep (in_block at ftrue) (fhide (elements_shared u8 lent.1 (block_of at) (count_of at) (lent.0 ∷ [])))
lent_bytes at None = ftrue

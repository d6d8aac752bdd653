-- What a handle owns: the box that was put there, with the right to return its block to the heap; or nothing.
use Rattle.std.specs.{Prelude.Option, Prelude.Some, Prelude.None, Box.Ownership.box_owns}
use base.Fml.{Fml, ftrue}
use denote.{RattleType.RattleType, RawPtr.Ptr}
use Rattle.std_heap.specs.contracts.GlobalAllocator.TheImpl.{ghosts}

abbrev pub slot_owns : (R : RattleType) → Ptr → Option R.Denot → Fml
slot_owns R at (Some value) = box_owns (ghosts.dealloc_token (record { memory = record { seal = tt } })) R at value
slot_owns R at None = ftrue

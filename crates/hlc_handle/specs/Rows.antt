-- The type of bytes on the heap.
use denote.RattleType.{RattleType}
use Rattle.std.specs.{Borrow.u8, contracts.impls.GlobalAllocator.TheImpl.ghosts}
use Rattle.std.specs.contracts.alloc.Global as global
use Rattle.std.specs.contracts.vec.Vec as vec

abbrev pub bytes_row : RattleType
bytes_row = vec.the_row u8 global.the_row ghosts

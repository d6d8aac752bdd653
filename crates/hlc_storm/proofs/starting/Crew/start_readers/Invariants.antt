-- The passes that are left are of the board. Where memory has not run out so far, each of the others has its thread in
-- the list.
use Rattle.std.proofs.Common.{◌≡◌, ◌+◌, false, length}
use Rattle.hlc_floor.specs.Views.{PassesOf}
use Rattle.hlc_storm.proofs.starting.Crew.start_readers.Given as goal

abbrev pub invariant-loop-place : goal.invariant-loop-place
invariant-loop-place g l = record {
  board : PassesOf l.board l.passes.items;
  left : length l.passes.items + l._place ≡ length l.fn.passes.items;
  kept : l.out_of_memory ≡ false → length l.readers.items ≡ l._place;
}

-- The feeders that are left are of the board. Where memory has not run out so far, each of the others has its thread in
-- the list.
use Rattle.std.proofs.Common.{◌≡◌, ◌+◌, false, length}
use Rattle.hlc_floor.specs.Views.{FeedersOf}
use Rattle.hlc_storm.proofs.starting.Crew.start_nodes.Given as goal

abbrev pub invariant-loop-place : goal.invariant-loop-place
invariant-loop-place g l = record {
  board : FeedersOf l.board l.feeders.items;
  left : length l.feeders.items + l._place ≡ length l.fn.feeders.items;
  kept : l.out_of_memory ≡ false → length l.workers.items ≡ l._place;
}

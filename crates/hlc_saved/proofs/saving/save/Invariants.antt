-- As many leaves as there were turns are written.
use Rattle.std.proofs.Common.{◌≡◌, ◌-◌}
use Rattle.hlc_saved.{specs.Writing.begin_bytes, specs.Writing.leaves_left, proofs.StorePieces.SavesMore}
use Rattle.hlc_saved.proofs.saving.save.Given as goal

abbrev pub invariant-loop : goal.invariant-loop
invariant-loop l = record {
  saved : SavesMore l.writer l.tag l.core (begin_bytes l.tag l.core) (begin_bytes l.tag l.core) l.out.items;
  fewer : leaves_left l.writer ≡ l.left - l.counter;
}

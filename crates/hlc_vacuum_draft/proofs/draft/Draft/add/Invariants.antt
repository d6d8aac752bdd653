-- The changes at the points so far and their flags were added, the changes were listed, the answer at the point before
-- is known, and no row is
-- in the gap after it.
use Rattle.std.proofs.Common.{◌≡◌, ◌+◌, List, length, option_copied}
use Rattle.hlc_witness.specs.{Changes.answer_at, declared.witness.Witness.Witness}
use Rattle.hlc_table_column.specs.Rows.{rows_of}
use Rattle.hlc_vacuum_draft.proofs.{SoFar.point_before, SoFar.AddedSoFar, Quiet.IsQuiet}
use Rattle.hlc_vacuum_draft.proofs.draft.Draft.add.Given as goal

abbrev pub invariant-loop-point : goal.invariant-loop-point
invariant-loop-point g l = record {
  long : length l.self.keep ≡ l.from + length l.column;
  before : l.before ≡ point_before l.points l.point-index;
  value_here : option_copied l.value_before
      ≡ answer_at (rows_of l.key l.column) l.key (point_before l.points l.point-index);
  quiet : IsQuiet (rows_of l.key l.column) (point_before l.points l.point-index) l.next;
  found : List Witness;
  added : AddedSoFar (rows_of l.key l.column) l.key l.points l.point-index found l.fn.self.changes
      l.self.changes l.fn.self.keep l.self.keep l.fn.self.bytes l.self.bytes;
  listed : g.C.Changes.adds l.fn.changes found l.changes;
}

-- The part before the rows, lent.
use Rattle.hlc_body.specs.{declared.preamble.PreambleRef.PreambleRef, Spelling.Preamble}

abbrev pub seen : PreambleRef → Preamble
seen preamble = record {
  initial_nodes = preamble.initial_nodes;
  links = preamble.links.now;
  snapshots = preamble.snapshots.now;
  last_id = preamble.last_id;
  horizon = preamble.horizon;
  count = preamble.count;
}

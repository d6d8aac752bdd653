-- The filled entries so far are at the front, the later ones are as they were, and each head is that of its key.
use Rattle.std.proofs.{Common.◌≡◌, Common.map, lemmas.List.Filters.FiltersInPlace}
use Rattle.hlc_table_index.specs.{Head.head_of, Entries.keys_in}
use Rattle.hlc_table_index.proofs.leaf.move_filled.Given as goal

abbrev pub invariant-loop-i : goal.invariant-loop-i
invariant-loop-i g l = record {
  moved : FiltersInPlace (λ e. g.V.Filled.is_filled e.1) l.fn.entries l.entries l.kept l.i;
  heads : l.heads ≡ map head_of (keys_in l.entries);
}

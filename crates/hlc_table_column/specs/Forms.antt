-- Where the rows of one key are stored.
use Rattle.std.specs.Prelude.{List, [], ◌∷◌, Bool, true, false, nat_lt, length}
use Rattle.hlc_table_column.specs.{Cells.Cell, declared.rows.Form.Form}
use Rattle.hlc_table_column.specs.declared.rows.Form.TheVariants.{Empty, One, Two, Four, Many}

-- the rows, wherever they are
abbrev pub cells_in_form : Form → List Cell
cells_in_form Empty = []
cells_in_form (One node stamp value) = record { stamp = stamp; node = node; value = value } ∷ []
cells_in_form (Two block) = block.value
cells_in_form (Four block) = block.value
cells_in_form (Many lists) = lists.value.cells

-- whether one more row fits where they are
abbrev pub has_room : Form → Bool
has_room Empty = true
has_room (One node stamp value) = false
has_room (Two block) = nat_lt (length block.value) 2
has_room (Four block) = nat_lt (length block.value) 4
has_room (Many lists) = nat_lt (length lists.value.cells) lists.value.room

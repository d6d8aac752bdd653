-- The plans of the columns of a leaf, after those of the columns before it; and the changes beside a draft.
use Rattle.std.specs.Prelude.{◌≡◌, ℕ, List, ◌++◌}
use Rattle.hlc_table_column.specs.Rows.{KeyCells, KeysAscend}
use Rattle.hlc_vacuum_draft.specs.{declared.draft.Draft.Draft, KeyPlan.IsDraftOf, KeyPlan.own_changes}
use Rattle.hlc_vacuum.specs.declared.piece.Piece.{Piece}

-- Whatever columns one draft is of, the other is of them and of some more.
abbrev pub JoinsMore : List ℕ → List KeyCells → Draft → Draft → Type 0
JoinsMore points more old new =
    (columns : List KeyCells) → KeysAscend (columns ++ more)
    → IsDraftOf columns points old → IsDraftOf (columns ++ more) points new

-- the draft of some columns, and their changes
pub record IsPieceOf (columns : List KeyCells) (points : List ℕ) (piece : Piece) : Type 0 where
  pub draft : IsDraftOf columns points piece.draft
  pub changes : piece.witnesses.items ≡ own_changes points columns

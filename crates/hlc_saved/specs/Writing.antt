-- A checkpoint that is written in pieces, and one that is written from the rows of a store.
use Rattle.std.specs.Prelude.{◌≡◌, ℕ, ◌-◌, List, ◌++◌, length, take, flat_map}
use Rattle.sha2.specs.Sha256.{sha256}
use Rattle.hlc_rows.specs.declared.row.Row.{Row}
use Rattle.hlc_table_column.specs.Rows.{KeyCells, KeysAscend, rows_in}
use Rattle.hlc_columns.specs.Table.{columns_in}
use Rattle.hlc_core.specs.StoreView.{StoreView}
use Rattle.hlc_checkpoint.specs.{Checkpoint.IsStore, Lent.AreListOf}
use Rattle.hlc_frame.specs.{Frame.front_bytes, Writing.HasPut}
use Rattle.hlc_saved.specs.declared.{writer.CheckpointWriter.CheckpointWriter, store_writer.StoreWriter.StoreWriter}
use Rattle.hlc_body.specs.Spelling.{preamble_bytes, preamble_of, checkpoint_bytes, row_bytes, SavedFits}

-- the front of the frame
abbrev pub front_of : ℕ → StoreView → List ℕ
front_of tag kept = front_bytes (length (checkpoint_bytes kept)) tag

-- the body up to these rows
abbrev pub body_to : StoreView → List Row → List ℕ
body_to kept rows = preamble_bytes (preamble_of kept) ++ flat_map row_bytes rows

-- the first piece: the front, and the body before the rows
abbrev pub begin_bytes : ℕ → StoreView → List ℕ
begin_bytes tag kept = front_of tag kept ++ preamble_bytes (preamble_of kept)

-- the last piece, after these rows: the digest
abbrev pub end_bytes : ℕ → StoreView → List Row → List ℕ
end_bytes tag kept rows = sha256 (front_of tag kept ++ body_to kept rows)

-- the writer has written the first piece of this tag and this checkpoint, and then these rows
abbrev pub HasWritten : CheckpointWriter → ℕ → StoreView → List Row → Type 0
HasWritten writer tag kept rows = HasPut writer.frame (front_of tag kept) (body_to kept rows)

-- the new bytes are the old ones, and maybe more
abbrev pub HasMore : List ℕ → List ℕ → Type 0
HasMore old new = (more : List ℕ) × (new ≡ old ++ more)

-- the new bytes are the old ones, and the rows of these columns, one column after another, each by stamp and node
abbrev pub HasColumns : List KeyCells → List ℕ → List ℕ → Type 0
HasColumns columns old new = (rows : List Row) × AreListOf columns rows × (new ≡ old ++ flat_map row_bytes rows)

-- the leaves have the rows of this state, which is a store's and has an encoding with this tag
pub record AreLeavesOf (leaves : List (List KeyCells)) (tag : ℕ) (kept : StoreView) : Type 0 where
  pub store : IsStore kept
  pub fits : SavedFits tag kept
  pub rows : rows_in (columns_in leaves) ≡ kept.rows
  pub ascend : KeysAscend (columns_in leaves)

-- these bytes are what the writer has written of this tag and this state: the first piece, and the rows of the leaves
-- before the next
pub record HasSaved (writer : StoreWriter) (tag : ℕ) (kept : StoreView) (bytes : List ℕ) : Type 0 where
  pub leaves : AreLeavesOf writer.leaves tag kept
  pub rows : List Row
  pub listed : AreListOf (columns_in (take writer.next writer.leaves)) rows
  pub spelled : bytes ≡ begin_bytes tag kept ++ flat_map row_bytes rows
  pub put : HasPut writer.frame (front_of tag kept) (body_to kept rows)

-- the number of leaves that the writer has not written
abbrev pub leaves_left : StoreWriter → ℕ
leaves_left writer = length writer.leaves - writer.next

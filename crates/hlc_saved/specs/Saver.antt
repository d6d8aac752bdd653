-- The bytes of a store, made as they are read.
use Rattle.std.specs.Prelude.{◌≡◌, ◌≢◌, ◌≤◌, ℕ, List, ◌++◌, Bool, true, false, length, drop, filter, sum_by}
use Rattle.std.specs.List.{flat_map, Sorted.IsPermutation}
use Rattle.std.specs.{Cmp.Lexicographic.slice_cmp, Ordering.nat_cmp, Ordering.is_le}
use Rattle.hlc_intake.specs.IntakeView.{IntakeView}
use Rattle.hlc_rows.specs.declared.row.Row.{Row}
use Rattle.hlc_witness.specs.Certificate.{RowsAscend}
use Rattle.hlc_checkpoint.specs.Checkpoint.{IsStore}
use Rattle.hlc_core.specs.StoreView.{StoreView}
use Rattle.hlc_frame.specs.Writing.{HasPut}
use Rattle.hlc_body.specs.Spelling.{row_bytes, SavedFits}
use Rattle.hlc_saved.specs.declared.fault.SaverError.{SaverError, TheVariants.Changed, TheVariants.NoMemory}
use Rattle.hlc_saved.specs.declared.{mark.Mark.Mark, savings.Saver.Saver}
use Rattle.hlc_saved.specs.Writing.{front_of, body_to, begin_bytes, end_bytes}

-- how many items were accepted
abbrev pub items_in : List IntakeView → ℕ
items_in links = sum_by (λ link. link.next) links

-- what is compared to find that a store changed
abbrev pub mark_of : StoreView → Mark
mark_of kept = record {
  nodes = length kept.links;
  items = items_in kept.links;
  last_id = kept.last_id;
  snapshots = length kept.snapshots;
  horizon = kept.horizon;
  rows = length kept.rows;
}

-- among some rows, those of keys up to this one; all rows, once all were made
abbrev pub rows_upto : Bool → List ℕ → List Row → List Row
rows_upto true last rows = rows
rows_upto false last rows = filter (λ row. is_le (slice_cmp nat_cmp row.key last)) rows

-- the bytes up to these rows; with the digest, once all were made
abbrev pub bytes_upto : Bool → ℕ → StoreView → List Row → List ℕ
bytes_upto false tag kept rows = begin_bytes tag kept ++ flat_map row_bytes rows
bytes_upto true tag kept rows = (begin_bytes tag kept ++ flat_map row_bytes rows) ++ end_bytes tag kept rows

-- Of this tag and this state, these bytes were read, and those that the saver still has come next: the first piece,
-- the rows of the keys up to some key, by key, stamp and node, and at last the digest.
pub record HasMade (saver : Saver) (tag : ℕ) (kept : StoreView) (read : List ℕ) : Type 0 where
  pub store : IsStore kept
  pub fits : SavedFits tag kept
  pub mark : saver.mark ≡ mark_of kept
  pub rows : List Row
  pub same : IsPermutation (rows_upto saver.is_whole saver.last.items kept.rows) rows
  pub ascend : RowsAscend rows
  pub spelled : read ++ drop saver.at saver.made.items ≡ bytes_upto saver.is_whole tag kept rows
  pub put : HasPut saver.frame (front_of tag kept) (body_to kept rows)

-- why no bytes were read: the store changed since the saving began; or it did not, and memory ran out
abbrev pub IsRefused : Saver → StoreView → SaverError → Type 0
IsRefused saver kept Changed = mark_of kept ≢ saver.mark
IsRefused saver kept NoMemory = mark_of kept ≡ saver.mark

-- all bytes were made, and read
abbrev pub IsRead : Saver → Type 0
IsRead saver = (saver.is_whole ≡ true) × (length saver.made.items ≤ saver.at)

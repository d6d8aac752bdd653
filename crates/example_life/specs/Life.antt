-- What took place in the life of a store, in the words of its rows: it was divided at a key, written to, and joined
-- into one again.
use Rattle.std.specs.Prelude.{◌≡◌, ℕ, ◌≤◌, ◌<◌, ◌⊎◌, ◌||◌, List, [], ◌∷◌, ◌++◌, Some, false, max, slice_get, All}
use Rattle.std.specs.Prelude.{Contains}
use Rattle.hlc.specs.{Node.Row, Node.AWrite, Node.NodeView, Node.answer, Node.Item as AnItem, Store.StoreView}
use Rattle.hlc.specs.Store.{Took, Began, rows_of_keys, Represents as CoreRepresents}
use Rattle.hlc.specs.Ranges.{Layout, Turn, issued_writes, ByKeys, RangesView, Represents, MachineView, IsMachineOf}
use Rattle.hlc.specs.Ranges.{is_under, is_from}
use Rattle.hlc_intake.specs.IntakeView.{IntakeView}
use Rattle.hlc_snapshot.specs.RegistryView.{stamps}
use Rattle.hlc_checkpoint.specs.{StoreView.greatest_head, Checkpoint.floor_in}
use Rattle.hlc_saved.specs.Saved.{BytesRepresent}
use Rattle.hlc_log.specs.{Log.log_bytes, Record.RecordFits, Places.CanRead, declared.record.Record.TheVariants.Item}

-- the row is of the write: it has its key, and its value or deletion mark
pub record IsRowOf (write : AWrite) (row : Row) : Type 0 where
  pub key : row.key ≡ write.key
  pub value : row.value ≡ write.value

-- the row of an item with a write
abbrev pub row_of : AnItem → AWrite → Row
row_of item write = record { key = write.key; stamp = item.stamp; node = item.node; value = write.value }

-- The node goes on where the link with its number ended, which has not retired.
pub record GoesOnFrom (links : List IntakeView) (number : ℕ) (node : NodeView) : Type 0 where
  pub link : IntakeView
  pub at : slice_get links number ≡ Some link
  pub active : link.retired ≡ false
  pub is : node ≡ record { id = number; last = link.head; next = link.next; retired = false }

-- the rows of the keys below a key, and then those of the others
abbrev pub halves : List ℕ → List Row → List Row
halves bound rows = rows_of_keys (is_under bound) rows ++ rows_of_keys (is_from bound) rows

-- Two ranges, and a machine that writes to them, began with the halves of a checkpoint that had these rows. In the run
-- since then, whose nodes are each of the machine with their number, just the rows that were written were issued.
pub record HaveGoneOn (rows : List Row) (bound : List ℕ) (written : List Row) (ranges : RangesView)
    (machine : MachineView) : Type 0 where
  pub layout : Layout
  pub run : List Turn
  pub number : ℕ
  pub represents : Represents layout ranges run
  pub writes : IsMachineOf layout run number machine
  pub two : layout.stores ≡ 2
  pub own : (s n : ℕ) → layout.machine s n ≡ n
  pub divided : ranges.division ≡ ByKeys (bound ∷ [])
  pub issued : issued_writes layout run ≡ halves bound rows ++ written

-- the state still has the answers at a stamp: from its horizon on, and at each open snapshot
abbrev pub IsShown : StoreView → ℕ → Type 0
IsShown kept at = (kept.horizon ≤ at) ⊎ Contains (stamps kept.snapshots) at

-- the state answers each key as these rows do, at each stamp up to the cut that it still has the answers at
abbrev pub AnswersAs : StoreView → ℕ → List Row → Type 0
AnswersAs kept cut rows =
    (key : List ℕ) (at : ℕ) → IsShown kept at → at ≤ cut → answer kept.rows key at ≡ answer rows key at

-- the link is as far as the further of two: it has the greater number and the greater head, and has retired if one has
abbrev pub further : IntakeView → IntakeView → IntakeView
further a b = record { next = max a.next b.next; head = max a.head b.head; retired = a.retired || b.retired }

-- the state with these links
abbrev pub with_links : StoreView → List IntakeView → StoreView
with_links kept links = record kept { links = links; top = greatest_head links }

-- A store began with a state, and took two items. Of it are a checkpoint from before them, the bytes of one from
-- between them, and a log of both.
pub record HasGrown (whole core older : StoreView) (saved log : List ℕ) (one two : AnItem) : Type 0 where
  pub began : CoreRepresents whole (Began whole ∷ [])
  pub represents : CoreRepresents core (Took two ∷ (Took one ∷ (Began whole ∷ [])))
  pub before : CoreRepresents older (Began whole ∷ [])
  pub between : BytesRepresent saved 1 (Took one ∷ (Began whole ∷ []))
  pub spelled : log ≡ log_bytes (Item one ∷ (Item two ∷ []))
  pub fit : All RecordFits (Item one ∷ (Item two ∷ []))

-- Two stores began with a state and took these rows, which are above its floor: where both can be read, each answers as
-- all of the rows do.
pub record AreCopies (whole : StoreView) (later : List Row) (one other : StoreView) : Type 0 where
  pub answers : (key : List ℕ) (at : ℕ) → CanRead one at → CanRead other at
      → (answer one.rows key at ≡ answer (whole.rows ++ later) key at)
      × (answer other.rows key at ≡ answer (whole.rows ++ later) key at)
  pub shown : (at : ℕ) → CanRead one at → IsShown whole at
  pub above : All (λ row. floor_in whole < row.stamp) later

-- Where both stores can be read they answer each key alike, and up to the cut as these rows do.
pub record AnswerAlike (rows : List Row) (cut : ℕ) (one other : StoreView) : Type 0 where
  pub alike : (key : List ℕ) (at : ℕ) → CanRead one at → CanRead other at
      → answer one.rows key at ≡ answer other.rows key at
  pub newest : (key : List ℕ) (at : ℕ) → CanRead one at → CanRead other at → at ≤ cut
      → answer one.rows key at ≡ answer rows key at

-- The rows of the leaves of a store, one leaf after another, are those of a checkpoint of it.
use Rattle.std.proofs.Common.{◌≡◌, ℕ, ◌+◌, ◌<◌, List, [], ◌∷◌, ◌++◌, length, take, drop, Some, slice_get, refl, sym, ap}
use Rattle.std.proofs.Common.{ap₂, subst, ◌∙◌, arith, append_assoc, length-append, IsPermutation, All, OnErr, Result}
use Rattle.std.proofs.Common.{Ok, Err, flat_map, append-nil, drop_at, take_all}
use Rattle.std.proofs.lemmas.{Grind.flat_map-append, Option.slice_get_within, Option.get_or_from_slice_get}
use Rattle.std.proofs.lemmas.List.{take_more, Elements.All-get_or, Concat.length-flat_map}
use Rattle.std.proofs.lemmas.List.Sorted.{All-permutation, length_permutation, sum_by-IsPermutation}
use Rattle.sha2.specs.Sha256.{sha256}
use Rattle.hlc_rows.specs.declared.row.Row.{Row}
use Rattle.hlc_table_column.specs.Rows.{KeyCells}
use Rattle.hlc_columns.specs.Table.{columns_in}
use Rattle.hlc_witness.specs.Certificate.{RowsAscend}
use Rattle.hlc_core.specs.{Past.Step, StoreView.StoreView, StoreView.Represents, StoreView.with_rows}
use Rattle.hlc_core.proofs.CheckpointLemmas.{copy-represents}
use Rattle.hlc_checkpoint.specs.{Checkpoint.IsCheckpointOf, Checkpoint.IsStore, Lent.IsWritable, Lent.AreListOf}
use Rattle.hlc_checkpoint.proofs.CheckpointLemmas.{store-checkpoint}
use Rattle.hlc_checkpoint.proofs.LentLemmas.{list-append, list-same, list-ascend}
use Rattle.hlc_frame.specs.{Frame.front_bytes, Writing.HasPut, declared.writer.FrameWriter.FrameWriter}
use Rattle.hlc_saved.specs.{declared.store_writer.StoreWriter.StoreWriter, Saved.AreOfStore, Saved.BytesRepresent}
use Rattle.hlc_body.specs.Spelling.{row_bytes, Preamble, preamble_bytes, preamble_of, checkpoint_bytes, saved_bytes}
use Rattle.hlc_body.specs.Spelling.{RowFits, SavedFits}
use Rattle.hlc_saved.specs.Writing.{front_of, body_to, begin_bytes, end_bytes, HasColumns, AreLeavesOf, HasSaved}
use Rattle.hlc_saved.specs.Writing.{leaves_left}
use Rattle.hlc_saved.proofs.Pieces.{pieces}

-- ---- lists

pub taken_one : {X : Type 0} (xs : List X) (i : ℕ) (x : X) → slice_get xs i ≡ Some x
    → take (i + 1) xs ≡ take i xs ++ x ∷ []
taken_one xs i x at =
    take_more xs i x (slice_get_within xs i x at)
    ∙ ap (λ y. take i xs ++ y ∷ []) (get_or_from_slice_get xs i x x at)

pub leaves_one : (leaves : List (List KeyCells)) (i : ℕ) (leaf : List KeyCells) → slice_get leaves i ≡ Some leaf
    → columns_in (take (i + 1) leaves) ≡ columns_in (take i leaves) ++ leaf
leaves_one leaves i leaf at =
    ap columns_in (taken_one leaves i leaf at)
    ∙ flat_map-append (λ (xs : List KeyCells). xs) (take i leaves) (leaf ∷ [])
    ∙ ap (λ xs. columns_in (take i leaves) ++ xs) (append-nil leaf)

pub writable_at : (leaf : List KeyCells) (i : ℕ) (one : KeyCells) → slice_get leaf i ≡ Some one
    → All IsWritable leaf → IsWritable one
writable_at leaf i one at each =
    subst IsWritable (get_or_from_slice_get leaf i one one at)
    (All-get_or IsWritable leaf i one (slice_get_within leaf i one at) each)

-- what is so in any case
pub on_err : {A E : Type 0} (P : Type 0) (r : Result A E) → P → OnErr r P
on_err P (Ok a) so = tt
on_err P (Err e) so = so

-- ---- columns

columns_then : (columns more : List KeyCells) (a b c : List ℕ) → HasColumns columns a b → HasColumns more b c
    → HasColumns (columns ++ more) a c
columns_then columns more a b c (rows, listed, is) (others, also, step) = (
  rows ++ others,
  list-append columns more rows others listed also,
  step ∙ ap (λ (xs : List ℕ). xs ++ flat_map row_bytes others) is
      ∙ append_assoc a (flat_map row_bytes rows) (flat_map row_bytes others)
      ∙ ap (λ (xs : List ℕ). a ++ xs) (sym (flat_map-append row_bytes rows others)),
)

-- one more column of a leaf
pub column_on : (leaf : List KeyCells) (i : ℕ) (one : KeyCells) (a b c : List ℕ) → slice_get leaf i ≡ Some one
    → HasColumns (take i leaf) a b → HasColumns (one ∷ []) b c → HasColumns (take (i + 1) leaf) a c
column_on leaf i one a b c at so step =
    subst (λ xs. HasColumns xs a c) (sym (taken_one leaf i one at))
    (columns_then (take i leaf) (one ∷ []) a b c so step)

pub columns_all : (leaf : List KeyCells) (i : ℕ) (a b : List ℕ) → (i < length leaf → ⊥)
    → HasColumns (take i leaf) a b → HasColumns leaf a b
columns_all leaf i a b past so =
    subst (λ xs. HasColumns xs a b) (take_all i leaf (omega (arith, past))) so

-- ---- leaves

abbrev pub SavesMore : StoreWriter → ℕ → StoreView → List ℕ → List ℕ → List ℕ → Type 0
SavesMore writer tag kept bytes before after =
    (piece : List ℕ) × (after ≡ before ++ piece) × HasSaved writer tag kept (bytes ++ piece)

-- one more leaf
pub leaf_saved : (old new : StoreWriter) (tag : ℕ) (kept : StoreView) (bytes : List ℕ) (leaf : List KeyCells)
    (before after piece : List ℕ) → new.leaves ≡ old.leaves → new.next ≡ old.next + 1
    → slice_get old.leaves old.next ≡ Some leaf → HasColumns leaf before after → piece ≡ drop (length before) after
    → ((front body : List ℕ) → HasPut old.frame front body → HasPut new.frame front (body ++ piece))
    → HasSaved old tag kept bytes → SavesMore new tag kept bytes before after
leaf_saved old new tag kept bytes leaf before after piece same next at (rows, listed, is) cut put has =
    let fm : List ℕ = flat_map row_bytes rows in
    let piece_is : piece ≡ fm = cut ∙ ap (drop (length before)) is ∙ drop_at before fm (length before) refl in
    let body : body_to kept has.rows ++ piece ≡ body_to kept (has.rows ++ rows) =
    ap (λ (l : List ℕ). body_to kept has.rows ++ l) piece_is
    ∙ append_assoc (preamble_bytes (preamble_of kept)) (flat_map row_bytes has.rows) fm
    ∙ ap (λ (l : List ℕ). preamble_bytes (preamble_of kept) ++ l) (sym (flat_map-append row_bytes has.rows rows)) in
    let columns : columns_in (take new.next new.leaves) ≡ columns_in (take old.next old.leaves) ++ leaf =
    ap₂ (λ (n : ℕ) (leaves : List (List KeyCells)). columns_in (take n leaves)) next same
    ∙ leaves_one old.leaves old.next leaf at in (
      fm,
      is,
      record {
        leaves = subst (λ (leaves : List (List KeyCells)). AreLeavesOf leaves tag kept) (sym same) has.leaves;
        rows = has.rows ++ rows;
        listed = subst (λ (cs : List KeyCells). AreListOf cs (has.rows ++ rows)) (sym columns)
            (list-append (columns_in (take old.next old.leaves)) leaf has.rows rows has.listed listed);
        spelled = ap (λ (l : List ℕ). l ++ fm) has.spelled
            ∙ append_assoc (begin_bytes tag kept) (flat_map row_bytes has.rows) fm
            ∙ ap (λ (l : List ℕ). begin_bytes tag kept ++ l) (sym (flat_map-append row_bytes has.rows rows));
        put = subst (λ (l : List ℕ). HasPut new.frame (front_of tag kept) l) body
            (put (front_of tag kept) (body_to kept has.rows) has.put);
      },
    )

pub saves_none : (writer : StoreWriter) (tag : ℕ) (kept : StoreView) (bytes before : List ℕ)
    → HasSaved writer tag kept bytes → SavesMore writer tag kept bytes before before
saves_none writer tag kept bytes before has =
    ([], sym (append-nil before), subst (HasSaved writer tag kept) (sym (append-nil bytes)) has)

pub saves_then : (mid new : StoreWriter) (tag : ℕ) (kept : StoreView) (bytes a b c : List ℕ)
    → SavesMore mid tag kept bytes a b
    → ((all' : List ℕ) → HasSaved mid tag kept all' → SavesMore new tag kept all' b c)
    → SavesMore new tag kept bytes a c
saves_then mid new tag kept bytes a b c (x, is, has) step =
    let more = step (bytes ++ x) has in (
      x ++ more.0,
      more.1 ∙ ap (λ (l : List ℕ). l ++ more.0) is ∙ append_assoc a x more.0,
      subst (HasSaved new tag kept) (append_assoc bytes x more.0) more.2,
    )

-- ---- the whole

-- rows in another order have as many bytes
rows_take : (rows others : List Row) → IsPermutation rows others
    → length (flat_map row_bytes rows) ≡ length (flat_map row_bytes others)
rows_take rows others moved =
    length-flat_map row_bytes rows
    ∙ sym (sum_by-IsPermutation (λ (row : Row). length (row_bytes row)) rows others moved)
    ∙ sym (length-flat_map row_bytes others)

pub sorted_whole : (tag : ℕ) (kept : StoreView) (rows : List Row) → IsStore kept → SavedFits tag kept
    → IsPermutation kept.rows rows → RowsAscend rows
    → AreOfStore ((begin_bytes tag kept ++ flat_map row_bytes rows) ++ end_bytes tag kept rows) tag kept
sorted_whole tag kept rows store fits moved ascend =
    let made : StoreView = with_rows kept rows in
    let is : IsCheckpointOf kept made = record {
      copy = record { same = refl; rows = moved };
      ascend = ascend;
    } in
    let count : length kept.rows ≡ length rows = sym (length_permutation kept.rows rows moved) in
    let same : preamble_of kept ≡ preamble_of made = rw count refl in
    let a : length (checkpoint_bytes kept)
    ≡ length (preamble_bytes (preamble_of kept)) + length (flat_map row_bytes kept.rows) =
    length-append (preamble_bytes (preamble_of kept)) (flat_map row_bytes kept.rows) in
    let b : length (checkpoint_bytes made)
    ≡ length (preamble_bytes (preamble_of made)) + length (flat_map row_bytes rows) =
    length-append (preamble_bytes (preamble_of made)) (flat_map row_bytes rows) in
    let long : length (checkpoint_bytes kept) ≡ length (checkpoint_bytes made) =
    a ∙ ap₂ (λ (m n : ℕ). m + n) (ap (λ (p : Preamble). length (preamble_bytes p)) same)
    (rows_take kept.rows rows moved)
    ∙ sym b in
    let front : front_of tag kept ≡ front_of tag made = ap (λ (n : ℕ). front_bytes n tag) long in
    let begin : begin_bytes tag kept ≡ begin_bytes tag made =
    ap₂ (λ (f : List ℕ) (p : Preamble). f ++ preamble_bytes p) front same in
    let end : end_bytes tag kept rows ≡ end_bytes tag made rows =
    ap₂ (λ (f : List ℕ) (p : Preamble). sha256 (f ++ (preamble_bytes p ++ flat_map row_bytes rows))) front same in
    let spelled : (begin_bytes tag kept ++ flat_map row_bytes rows) ++ end_bytes tag kept rows
    ≡ saved_bytes tag made =
    ap₂ (λ (l m : List ℕ). (l ++ flat_map row_bytes rows) ++ m) begin end ∙ pieces tag made in
    let fit : SavedFits tag made = record {
      frame = record {
        tag_fits = fits.frame.tag_fits;
        length_fits = subst (λ (n : ℕ). n < 18446744073709551616) long fits.frame.length_fits;
      };
      checkpoint = record {
        initial_nodes = fits.checkpoint.initial_nodes;
        links = fits.checkpoint.links;
        top = fits.checkpoint.top;
        snapshots = fits.checkpoint.snapshots;
        last_id = fits.checkpoint.last_id;
        horizon = fits.checkpoint.horizon;
        rows = (
          subst (λ (n : ℕ). n < 18446744073709551616) count fits.checkpoint.rows.0,
          All-permutation RowFits kept.rows rows moved fits.checkpoint.rows.1,
        );
      };
    } in
    (made, record { spelled = spelled; fits = fit; sound = store-checkpoint kept made store is }, is)

pub saved_whole : (writer : StoreWriter) (tag : ℕ) (kept : StoreView) (bytes : List ℕ)
    → (has : HasSaved writer tag kept bytes) → leaves_left writer ≡ 0
    → AreOfStore (bytes ++ end_bytes tag kept has.rows) tag kept
saved_whole writer tag kept bytes has none =
    let rows : List Row = has.rows in
    let listed : AreListOf (columns_in writer.leaves) rows =
    subst (λ (leaves : List (List KeyCells)). AreListOf (columns_in leaves) rows)
    (take_all writer.next writer.leaves (omega (arith, none))) has.listed in
    let moved : IsPermutation kept.rows rows =
    subst (λ (xs : List Row). IsPermutation xs rows) has.leaves.rows
    (list-same (columns_in writer.leaves) rows listed) in
    subst (λ (l : List ℕ). AreOfStore (l ++ end_bytes tag kept rows) tag kept) (sym has.spelled)
    (sorted_whole tag kept rows has.leaves.store has.leaves.fits moved
    (list-ascend (columns_in writer.leaves) rows has.leaves.ascend listed))

-- and they represent what the store does
pub bytes_represent : (bytes : List ℕ) (tag : ℕ) (kept : StoreView) (past : List Step) → AreOfStore bytes tag kept
    → Represents kept past → BytesRepresent bytes tag past
bytes_represent bytes tag kept past (made, of, is) h = (made, of, copy-represents kept made past h is.copy)

-- a writer that has begun
pub begun : (writer : StoreWriter) (tag : ℕ) (kept : StoreView) → AreLeavesOf writer.leaves tag kept
    → writer.next ≡ 0 → HasPut writer.frame (front_of tag kept) (preamble_bytes (preamble_of kept))
    → HasSaved writer tag kept (begin_bytes tag kept)
begun writer tag kept of next put = record {
  leaves = of;
  rows = [];
  listed = subst (λ (n : ℕ). AreListOf (columns_in (take n writer.leaves)) []) (sym next) refl;
  spelled = sym (append-nil (begin_bytes tag kept));
  put = subst (λ (l : List ℕ). HasPut writer.frame (front_of tag kept) l)
      (sym (append-nil (preamble_bytes (preamble_of kept)))) put;
}

-- the front and the part before the rows were hashed
pub front_put : (frame : FrameWriter) (size tag : ℕ) (p : Preamble) (kept : StoreView) → p ≡ preamble_of kept
    → size ≡ length (checkpoint_bytes kept) → HasPut frame (front_bytes size tag) (preamble_bytes p)
    → HasPut frame (front_of tag kept) (preamble_bytes (preamble_of kept))
front_put frame size tag p kept same sized put =
    subst (λ (q : Preamble). HasPut frame (front_of tag kept) (preamble_bytes q)) same
    (subst (λ (n : ℕ). HasPut frame (front_bytes n tag) (preamble_bytes p)) sized put)

-- all pieces, from no bytes on
pub all_saved : (writer : StoreWriter) (tag : ℕ) (kept : StoreView) (none first second third : List ℕ) → none ≡ []
    → first ≡ none ++ begin_bytes tag kept
    → SavesMore writer tag kept (begin_bytes tag kept) first second
    → ((bytes : List ℕ) → HasSaved writer tag kept bytes
    → (piece : List ℕ) × (third ≡ second ++ piece) × AreOfStore (bytes ++ piece) tag kept)
    → AreOfStore third tag kept
all_saved writer tag kept none first second third is1 is2 (x, is3, has) last =
    let end = last (begin_bytes tag kept ++ x) has in
    let same : third ≡ (begin_bytes tag kept ++ x) ++ end.0 =
    end.1 ∙ ap (λ (l : List ℕ). l ++ end.0) (is3 ∙ ap (λ (l : List ℕ). l ++ x) (is2
    ∙ ap (λ (l : List ℕ). l ++ begin_bytes tag kept) is1)) in
    subst (λ (l : List ℕ). AreOfStore l tag kept) (sym same) end.2

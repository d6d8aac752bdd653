-- The drafts of the pieces of some leaves, joined: each piece adds its draft to those before it, since the keys of all
-- pieces ascend; and so do each leaf and each column.
use Rattle.std.proofs.Common.{◌≡◌, ◌∙◌, ◌+◌, ◌<◌, ◌≤◌, ℕ, zero, suc, List, [], ◌∷◌, ◌++◌, length, Result, Ok, sym, ap}
use Rattle.std.proofs.Common.{ap₂, refl, subst, arith, get_or, slice_get, None, Some, take, drop}
use Rattle.std.specs.{List.AllZip, declared.alloc.AllocError.AllocError}
use Rattle.std.proofs.lemmas.List.{append-nil, append_assoc, length-append, length-map, take_more, take-append-drop}
use Rattle.std.proofs.lemmas.{Option.get_or_from_slice_get, Grind.flat_map-append}
use Rattle.hlc_table_column.specs.Rows.{KeyCells, KeysAscend, row_of, rows_in, rows_in_one}
use Rattle.hlc_vacuum_draft.specs.{declared.draft.Draft.Draft, KeyPlan.AddsPlan, KeyPlan.IsDraftOf, KeyPlan.own_changes}
use Rattle.hlc_witness.specs.AllChanges.{key_changes}
use Rattle.hlc_vacuum.specs.{declared.piece.Piece.Piece, Leaves.JoinsMore, Leaves.IsPieceOf}
use Rattle.hlc_columns.specs.Table.{columns_in}
use Rattle.hlc_vacuum.specs.Parallel.{DraftsPiece, leaves_of}
use Rattle.hlc_vacuum_draft.proofs.JoinedLemmas.{ascend_front, ascend_back, column_next, own-append, draft_append}
use Rattle.hlc_vacuum_draft.proofs.JoinedLemmas.{draft_none, draft_push, draft_same}

-- the columns of some pieces, and of others after them
columns_both : (xs ys : List (List KeyCells)) → columns_in (xs ++ ys) ≡ columns_in xs ++ columns_in ys
columns_both xs ys = flat_map-append (λ leaf. leaf) xs ys

-- the pieces of leaves whose keys ascend
pub piece_ascends : (pieces : List (List (List KeyCells))) (k : ℕ) (d : List (List KeyCells))
    → KeysAscend (columns_in (leaves_of pieces)) → k < length pieces → KeysAscend (columns_in (get_or pieces k d))
piece_ascends [] k d up lt = absurd (omega arith)
piece_ascends (piece ∷ pieces) zero d up lt =
    ascend_front (columns_in piece) (columns_in (leaves_of pieces))
    (subst KeysAscend (columns_both piece (leaves_of pieces)) up)
piece_ascends (piece ∷ pieces) (suc k) d up lt =
    piece_ascends pieces k d (ascend_back (columns_in piece) (columns_in (leaves_of pieces))
    (subst KeysAscend (columns_both piece (leaves_of pieces)) up)) (omega arith)

-- a list that matches another list and one more member: its front, and its last member
record Last {A B : Type 0} (R : A → B → Type 0) (xs : List A) (ys : List B) (y : B) : Type 0 where
  front : List A
  last : A
  is : xs ≡ front ++ last ∷ []
  fronts : AllZip R front ys
  lasts : R last y

last_of_zip : {A B : Type 0} (R : A → B → Type 0) (xs : List A) (ys : List B) (y : B) → AllZip R xs (ys ++ y ∷ [])
    → Last R xs ys y
last_of_zip R [] [] y h = absurd h
last_of_zip R [] (z ∷ ys) y h = absurd h
last_of_zip R (x ∷ []) [] y h = record { front = []; last = x; is = refl; fronts = tt; lasts = h.0 }
last_of_zip R (x ∷ w ∷ xs) [] y h = absurd h.1
last_of_zip R (x ∷ xs) (z ∷ ys) y h =
    let rest = last_of_zip R xs ys y h.1 in
    record {
      front = x ∷ rest.front;
      last = rest.last;
      is = ap (λ l. x ∷ l) rest.is;
      fronts = (h.0, rest.fronts);
      lasts = rest.lasts;
    }

-- the meaning of some pieces that were joined
abbrev pub JoinsPieces : List (Result Piece AllocError) → Piece → Type 0
JoinsPieces drafts whole =
    (points : List ℕ) (pieces : List (List (List KeyCells))) → KeysAscend (columns_in (leaves_of pieces))
    → AllZip (DraftsPiece points) pieces drafts
    → IsPieceOf (columns_in (leaves_of pieces)) points whole

-- one more piece
pub pieces_on : (drafts : List (Result Piece AllocError)) (whole more new : Piece)
    → JoinsPieces drafts whole
    → new.witnesses.items ≡ whole.witnesses.items ++ more.witnesses.items
    → new.draft.keep ≡ whole.draft.keep ++ more.draft.keep
    → new.draft.changes ≡ whole.draft.changes + more.draft.changes
    → new.draft.bytes ≡ whole.draft.bytes + more.draft.bytes
    → JoinsPieces (drafts ++ Ok more ∷ []) new
pieces_on drafts whole more new so news keeps number total = λ points pieces up each.
    let parts = last_of_zip (DraftsPiece points) pieces drafts (Ok more) each in
    let first = columns_in (leaves_of parts.front) in
    let last = columns_in parts.last in
    let both : columns_in (leaves_of pieces) ≡ first ++ last =
    ap (λ pieces. columns_in (leaves_of pieces)) parts.is
    ∙ ap columns_in (flat_map-append (λ piece. piece) parts.front (parts.last ∷ [])
    ∙ ap (λ xs. leaves_of parts.front ++ xs) (append-nil parts.last))
    ∙ columns_both (leaves_of parts.front) parts.last in
    let ascend = subst KeysAscend both up in
    let front = so points parts.front (ascend_front first last ascend) parts.fronts in
    subst (λ xs. IsPieceOf xs points new) (sym both)
    (record {
      draft = draft_append points first last ascend whole.draft more.draft new.draft front.draft parts.lasts.draft
          keeps number total;
      changes = news ∙ ap₂ (λ xs ys. xs ++ ys) front.changes parts.lasts.changes
          ∙ sym (own-append points first last);
    })

-- no piece
pub pieces_none : (whole : Piece) → whole.draft.keep ≡ [] → whole.draft.changes ≡ 0 → whole.draft.bytes ≡ 0
    → whole.witnesses.items ≡ [] → JoinsPieces [] whole
pieces_none whole keeps number total none = λ points pieces up each. no_pieces points pieces each
  where
    no_pieces : (points : List ℕ) (pieces : List (List (List KeyCells))) → AllZip (DraftsPiece points) pieces []
        → IsPieceOf (columns_in (leaves_of pieces)) points whole
    no_pieces points [] each = record { draft = draft_none points whole.draft keeps number total; changes = none }
    no_pieces points (piece ∷ pieces) each = absurd each

-- the columns of one more of some leaves
pub leaf_next : (leaves : List (List KeyCells)) (i : ℕ) (leaf : List KeyCells) → i < length leaves
    → leaf ≡ get_or leaves i leaf → columns_in (take (i + 1) leaves) ≡ columns_in (take i leaves) ++ leaf
leaf_next leaves i leaf lt is =
    ap columns_in (take_more leaves i leaf lt) ∙ columns_both (take i leaves) (get_or leaves i leaf ∷ [])
    ∙ ap (λ xs. columns_in (take i leaves) ++ xs) (append-nil (get_or leaves i leaf))
    ∙ ap (λ xs. columns_in (take i leaves) ++ xs) (sym is)

-- one more of some leaves
pub leaves_on : (points : List ℕ) (leaves : List (List KeyCells)) (i : ℕ) (leaf : List KeyCells)
    (old new : Draft) → KeysAscend (columns_in leaves) → i < length leaves → leaf ≡ get_or leaves i leaf
    → IsDraftOf (columns_in (take i leaves)) points old → JoinsMore points leaf old new
    → IsDraftOf (columns_in (take (i + 1) leaves)) points new
leaves_on points leaves i leaf old new up lt is so more =
    let next = leaf_next leaves i leaf lt is in
    let ascend : KeysAscend (columns_in (take (i + 1) leaves)) =
    ascend_front (columns_in (take (i + 1) leaves)) (columns_in (drop (i + 1) leaves))
    (subst KeysAscend (ap columns_in (sym (take-append-drop (i + 1) leaves))
    ∙ columns_both (take (i + 1) leaves) (drop (i + 1) leaves)) up) in
    subst (λ xs. IsDraftOf xs points new) (sym next)
    (more (columns_in (take i leaves)) (subst KeysAscend next ascend) so)

-- no column of a leaf
pub more_none : (points : List ℕ) (draft room : Draft) → room.keep ≡ draft.keep
    → room.changes ≡ draft.changes → room.bytes ≡ draft.bytes → JoinsMore points [] draft room
more_none points draft room keeps number total = λ columns up so.
    subst (λ xs. IsDraftOf xs points room) (sym (append-nil columns))
    (draft_same points columns draft room keeps number total so)

-- one more of some columns
pub column_on : (columns : List KeyCells) (i : ℕ) (one : KeyCells) → slice_get columns i ≡ Some one
    → i < length columns → take (i + 1) columns ≡ take i columns ++ one ∷ []
column_on columns i one read lt =
    column_next columns i one lt (sym (get_or_from_slice_get columns i one one read))

-- the changes of one more of some columns
pub own-more : (points : List ℕ) (columns : List KeyCells) (i : ℕ) (one : KeyCells)
    → take (i + 1) columns ≡ take i columns ++ one ∷ []
    → own_changes points (take i columns) ++ key_changes (rows_in_one one) one.key None points
    ≡ own_changes points (take (i + 1) columns)
own-more points columns i one next =
    ap (λ xs. own_changes points (take i columns) ++ xs)
    (sym (append-nil (key_changes (rows_in_one one) one.key None points)))
    ∙ sym (own-append points (take i columns) (one ∷ [])) ∙ ap (own_changes points) (sym next)

-- one more column of a leaf
pub more_on : (points : List ℕ) (leaf : List KeyCells) (i : ℕ) (one : KeyCells) (first old new : Draft)
    → slice_get leaf i ≡ Some one → i < length leaf → JoinsMore points (take i leaf) first old
    → AddsPlan (rows_in_one one) one.key points old.changes new.changes old.keep new.keep
    old.bytes new.bytes
    → JoinsMore points (take (i + 1) leaf) first new
more_on points leaf i one first old new read lt so plan = λ columns up begun.
    let next : columns ++ take (i + 1) leaf ≡ (columns ++ take i leaf) ++ one ∷ [] =
    ap (λ xs. columns ++ xs) (column_on leaf i one read lt) ∙ sym (append_assoc columns (take i leaf) (one ∷ [])) in
    let ascend : KeysAscend ((columns ++ take i leaf) ++ one ∷ []) = subst KeysAscend next up in
    subst (λ xs. IsDraftOf xs points new) (sym next)
    (draft_push points (columns ++ take i leaf) one ascend old new
    (so columns (ascend_front (columns ++ take i leaf) (one ∷ []) ascend) begun) plan)

-- the rows of the first columns of a leaf, and of one more
pub fetched_on : (leaf : List KeyCells) (i : ℕ) (one : KeyCells) → slice_get leaf i ≡ Some one → i < length leaf
    → length (rows_in (take (i + 1) leaf)) ≡ length (rows_in (take i leaf)) + length one.cells
fetched_on leaf i one read lt =
    let is : take (i + 1) leaf ≡ take i leaf ++ one ∷ [] =
    take_more leaf i one lt ∙ ap (λ x. take i leaf ++ x ∷ []) (get_or_from_slice_get leaf i one one read) in
    let both = ap length (ap rows_in is ∙ flat_map-append rows_in_one (take i leaf) (one ∷ [])
    ∙ ap (λ rows. rows_in (take i leaf) ++ rows) (append-nil (rows_in_one one))) in
    let sum = length-append (rows_in (take i leaf)) (rows_in_one one) in
    let own = length-map one.cells (row_of one.key) in
    omega (arith, both, sum, own)

pub fetched_few : (leaf : List KeyCells) (i : ℕ) → length (rows_in (take i leaf)) ≤ length (rows_in leaf)
fetched_few leaf i =
    let whole = ap length (ap rows_in (sym (take-append-drop i leaf))
    ∙ flat_map-append rows_in_one (take i leaf) (drop i leaf)) in
    let long = length-append (rows_in (take i leaf)) (rows_in (drop i leaf)) in
    omega (arith, whole, long)

-- The part before the rows, the rows and the digest are all of the bytes.
use Rattle.std.proofs.Common.{◌≡◌, ℕ, List, [], ◌∷◌, ◌++◌, length, take, get_or, drop, sym, ap, ap₂, subst, ◌∙◌}
use Rattle.std.proofs.Common.{append_assoc, ◌<◌, ◌+◌, flat_map, drop_at, append-nil}
use Rattle.std.proofs.lemmas.List.{take_more}
use Rattle.hlc_rows.specs.declared.row.Row.{Row}
use Rattle.hlc_core.specs.StoreView.{StoreView}
use Rattle.hlc_frame.specs.{Frame.front_bytes, Writing.HasPut, declared.writer.FrameWriter.FrameWriter}
use Rattle.hlc_frame.proofs.FrontLemmas.{length-front}
use Rattle.hlc_body.specs.Spelling.{row_bytes, Preamble, preamble_bytes, preamble_of, checkpoint_bytes, saved_bytes}
use Rattle.hlc_saved.specs.Writing.{front_of, body_to, begin_bytes, end_bytes}

pub pieces : (tag : ℕ) (kept : StoreView)
    → (begin_bytes tag kept ++ flat_map row_bytes kept.rows) ++ end_bytes tag kept kept.rows ≡ saved_bytes tag kept
pieces tag kept =
    ap (λ (l : List ℕ). l ++ end_bytes tag kept kept.rows)
    (append_assoc (front_of tag kept) (preamble_bytes (preamble_of kept)) (flat_map row_bytes kept.rows))

-- the bytes after the front
pub front_dropped : (len tag : ℕ) (rest : List ℕ) → drop 20 (front_bytes len tag ++ rest) ≡ rest
front_dropped len tag rest = drop_at (front_bytes len tag) rest 20 (length-front len tag)

-- one more row
pub row_more : (rows : List Row) (i : ℕ) (row : Row) → i < length rows → row ≡ get_or rows i row
    → take i rows ++ row ∷ [] ≡ take (i + 1) rows
row_more rows i row lt is = sym (take_more rows i row lt ∙ ap (λ (r : Row). take i rows ++ r ∷ []) (sym is))

-- the part before the rows was hashed
pub noted : (writer : FrameWriter) (size tag : ℕ) (kept : StoreView) (body : List ℕ) → size
    ≡ length (checkpoint_bytes kept)
    → body ≡ preamble_bytes (preamble_of kept) → HasPut writer (front_bytes size tag) body
    → HasPut writer (front_of tag kept) (body_to kept [])
noted writer size tag kept body sized is has =
    let all' : body ≡ body_to kept [] = is ∙ sym (append-nil (preamble_bytes (preamble_of kept))) in
    subst (λ (l : List ℕ). HasPut writer (front_of tag kept) l) all'
    (subst (λ (n : ℕ). HasPut writer (front_bytes n tag) body) sized has)

-- a front, and the part before the rows after it
pub after_front : (p : Preamble) (size tag : ℕ) (none front piece : List ℕ) → none ≡ []
    → front ≡ none ++ front_bytes size tag
    → piece ≡ front ++ preamble_bytes p → drop 20 piece ≡ preamble_bytes p
after_front p size tag none front piece is1 is2 is3 =
    ap (drop 20) (is3 ∙ ap (λ (l : List ℕ). l ++ preamble_bytes p) (is2
    ∙ ap (λ (l : List ℕ). l ++ front_bytes size tag) is1))
    ∙ front_dropped size tag (preamble_bytes p)

-- both are the first piece
pub first_piece : (p : Preamble) (kept : StoreView) (size tag : ℕ) (old new : List ℕ) → p ≡ preamble_of kept
    → size ≡ length (checkpoint_bytes kept) → new ≡ old ++ (front_bytes size tag ++ preamble_bytes p)
    → new ≡ old ++ begin_bytes tag kept
first_piece p kept size tag old new same sized is =
    is ∙ ap₂ (λ (n : ℕ) (q : Preamble). old ++ (front_bytes n tag ++ preamble_bytes q)) sized same

-- the pieces, one after the other
pub written : (tag : ℕ) (kept : StoreView) (none first rows end : List ℕ) → none ≡ []
    → first ≡ none ++ begin_bytes tag kept
    → rows ≡ first ++ flat_map row_bytes kept.rows → end ≡ rows ++ end_bytes tag kept kept.rows
    → end ≡ saved_bytes tag kept
written tag kept none first rows end is1 is2 is3 is4 =
    is4 ∙ ap (λ (l : List ℕ). l ++ end_bytes tag kept kept.rows)
    (is3 ∙ ap (λ (l : List ℕ). l ++ flat_map row_bytes kept.rows) (is2
    ∙ ap (λ (l : List ℕ). l ++ begin_bytes tag kept) is1))
    ∙ pieces tag kept

-- What a saver has made, step by step.
use Rattle.std.proofs.Common.{◌≡◌, ℕ, zero, suc, ◌+◌, ◌-◌, ◌<◌, ◌≤◌, List, [], ◌∷◌, ◌++◌, length, take, drop, cond}
use Rattle.std.proofs.Common.{Bool, true, false, refl, sym, ap, ap₂, subst, ◌∙◌, inl, inr, arith, append_assoc}
use Rattle.std.proofs.Common.{zero-add, length-append, IsPermutation, nat_cmp, filter, min, Option, None}
use Rattle.std.specs.Prelude.{◌⊎◌, nat_lt, OnOk, Result, Ok, Err, is_err}
use Rattle.std.specs.{List.flat_map, List.Sorted.IsStrictlySortedBy, Ordering.is_le, Cmp.Lexicographic.slice_cmp}
use Rattle.std.proofs.Math.Seq.{take-append_seam, drop-append_seam, drop-nil}
use Rattle.std.proofs.lemmas.{Bool.cases_eq, Bool.cases_lt, Grind.flat_map-append}
use Rattle.std.proofs.lemmas.List.{append-nil, append_cancel_left, drop_all, length-drop, length-take, take-append-drop}
use Rattle.std.proofs.lemmas.List.{Elements.All-head, Elements.All-tail, Sorted.IsPermutation-refl}
use Rattle.sha2.specs.Sha256.{sha256}
use Rattle.sha2.proofs.Facts256.{length-sha256}
use Rattle.hlc_rows.specs.{declared.row.Row.Row, Limits.write_refusal}
use Rattle.hlc_table_column.specs.Rows.{KeyCells}
use Rattle.hlc_columns.specs.Answers.{AreNext, last_key}
use Rattle.hlc_witness.specs.Cost.{IsInLimits, AreInLimits}
use Rattle.hlc_core.specs.StoreView.{StoreView}
use Rattle.hlc_frame.specs.{Frame.front_bytes, Writing.HasPut}
use Rattle.hlc_frame.proofs.FrontLemmas.{length-front}
use Rattle.hlc_body.specs.Spelling.{row_bytes, preamble_bytes, preamble_of, checkpoint_bytes, saved_bytes}
use Rattle.hlc_saved.specs.declared.{savings.Saver.Saver, store_writer.StoreWriter.StoreWriter}
use Rattle.hlc_saved.specs.{Saved.AreOfStore, Saver.HasMade, Saver.mark_of, Saver.rows_upto, Saver.bytes_upto}
use Rattle.hlc_saved.specs.Writing.{front_of, body_to, begin_bytes, HasColumns, HasSaved}
use Rattle.hlc_saved.proofs.{Makes.rows_follow, Makes.rows_all, StorePieces.sorted_whole}

-- ---- the start

-- each key that an item may write is above no bytes
key_high : (key : List ℕ) (value : Option (List ℕ)) → write_refusal key value ≡ None
    → is_le (slice_cmp nat_cmp key []) ≡ false
key_high [] value is = cc is
key_high (b ∷ key) value is = refl

none_low : (rows : List Row) → AreInLimits rows → filter (λ row. is_le (slice_cmp nat_cmp row.key [])) rows ≡ []
none_low [] low = refl
none_low (row ∷ rows) low =
    ap (λ b. cond b (row ∷ filter (λ (r : Row). is_le (slice_cmp nat_cmp r.key [])) rows)
    (filter (λ (r : Row). is_le (slice_cmp nat_cmp r.key [])) rows))
    (key_high row.key row.value (All-head IsInLimits row rows low))
    ∙ none_low rows (All-tail IsInLimits row rows low)

pub started : (writer : StoreWriter) (saver : Saver) (tag : ℕ) (kept : StoreView) → saver.mark ≡ mark_of kept
    → saver.frame ≡ writer.frame → saver.last.items ≡ [] → saver.is_whole ≡ false → saver.at ≡ 0
    → saver.made.items ≡ begin_bytes tag kept → HasSaved writer tag kept (begin_bytes tag kept)
    → HasMade saver tag kept []
unfolding IsStrictlySortedBy
started writer saver tag kept mark frame last more at made has =
    let none : flat_map row_bytes has.rows ≡ [] =
    sym (append_cancel_left (begin_bytes tag kept) [] (flat_map row_bytes has.rows)
    (append-nil (begin_bytes tag kept) ∙ has.spelled)) in
    let low : rows_upto false [] kept.rows ≡ [] = none_low kept.rows has.leaves.store.sound.limits in
    record {
      store = has.leaves.store;
      fits = has.leaves.fits;
      mark = mark;
      rows = [];
      same = subst (λ l. IsPermutation l []) (sym (ap₂ (λ b l. rows_upto b l kept.rows) more last ∙ low))
          (IsPermutation-refl []);
      ascend = tt;
      spelled = ap₂ (λ (n : ℕ) (l : List ℕ). drop n l) at made ∙ sym (append-nil (begin_bytes tag kept))
          ∙ ap (λ b. bytes_upto b tag kept []) (sym more);
      put = subst (λ f. HasPut f (front_of tag kept) (body_to kept [])) (sym frame)
          (subst (λ (l : List ℕ). HasPut writer.frame (front_of tag kept)
          (preamble_bytes (preamble_of kept) ++ l)) none has.put);
    }

pub saved_length : (tag : ℕ) (kept : StoreView) → length (saved_bytes tag kept) ≡ length (checkpoint_bytes kept) + 52
saved_length tag kept =
    let body : List ℕ = checkpoint_bytes kept in
    let front : List ℕ = front_bytes (length body) tag in
    let a = length-append (front ++ body) (sha256 (front ++ body)) in
    let b = length-append front body in
    let c = length-front (length body) tag in
    let d = length-sha256 (front ++ body) in
    omega (arith, a, b, c, d)

-- ---- the rows and the digest

-- where all that was made was read, the bytes are those up to the rows
read_all : (saver : Saver) (tag : ℕ) (kept : StoreView) (read : List ℕ) → length saver.made.items ≤ saver.at
    → (has : HasMade saver tag kept read) → read ≡ bytes_upto saver.is_whole tag kept has.rows
read_all saver tag kept read all' has =
    sym (append-nil read) ∙ ap (λ (l : List ℕ). read ++ l) (sym (drop_all saver.at saver.made.items all')) ∙ has.spelled

pub rows_made : (old new : Saver) (tag : ℕ) (kept : StoreView) (read : List ℕ) (limit : ℕ) (columns : List KeyCells)
    → length old.made.items ≤ old.at → old.is_whole ≡ false → new.mark ≡ old.mark → new.is_whole ≡ old.is_whole
    → new.last.items ≡ last_key old.last.items columns → new.at ≡ 0 → 0 < length columns
    → AreNext kept.rows old.last.items limit columns → HasColumns columns [] new.made.items
    → ((front body : List ℕ) → HasPut old.frame front body → HasPut new.frame front (body ++ new.made.items))
    → HasMade old tag kept read → HasMade new tag kept read
rows_made old new tag kept read limit [] all' more mark whole last at some next made put has =
    absurd (omega (arith, some))
rows_made old new tag kept read limit (one ∷ others) all' more mark whole last at some next (rows, listed, is) put has =
    let fm : List ℕ = flat_map row_bytes rows in
    let follow = rows_follow kept.rows old.last.items limit one others next has.rows rows
    (subst (λ b. IsPermutation (rows_upto b old.last.items kept.rows) has.rows) more has.same) has.ascend listed in
    let body : body_to kept has.rows ++ new.made.items ≡ body_to kept (has.rows ++ rows) =
    ap (λ (l : List ℕ). body_to kept has.rows ++ l) is
    ∙ append_assoc (preamble_bytes (preamble_of kept)) (flat_map row_bytes has.rows) fm
    ∙ ap (λ (l : List ℕ). preamble_bytes (preamble_of kept) ++ l) (sym (flat_map-append row_bytes has.rows rows)) in
    let more' : new.is_whole ≡ false = whole ∙ more in
    record {
      store = has.store;
      fits = has.fits;
      mark = mark ∙ has.mark;
      rows = has.rows ++ rows;
      same = subst (λ l. IsPermutation l (has.rows ++ rows))
          (sym (ap₂ (λ b l. rows_upto b l kept.rows) more' last)) follow.0;
      ascend = follow.1;
      spelled = ap₂ (λ (a b : List ℕ). a ++ b)
          (read_all old tag kept read all' has ∙ ap (λ b. bytes_upto b tag kept has.rows) more)
          (ap (λ n. drop n new.made.items) at ∙ is)
          ∙ append_assoc (begin_bytes tag kept) (flat_map row_bytes has.rows) fm
          ∙ ap (λ (l : List ℕ). begin_bytes tag kept ++ l) (sym (flat_map-append row_bytes has.rows rows))
          ∙ ap (λ b. bytes_upto b tag kept (has.rows ++ rows)) (sym more');
      put = subst (λ (l : List ℕ). HasPut new.frame (front_of tag kept) l) body
          (put (front_of tag kept) (body_to kept has.rows) has.put);
    }

pub digest_made : (old new : Saver) (tag : ℕ) (kept : StoreView) (read : List ℕ) (limit : ℕ)
    → length old.made.items ≤ old.at → old.is_whole ≡ false → new.mark ≡ old.mark → new.frame ≡ old.frame
    → new.is_whole ≡ true → new.at ≡ 0 → nat_lt 0 limit ≡ true → AreNext kept.rows old.last.items limit []
    → ((front body : List ℕ) → HasPut old.frame front body → new.made.items ≡ [] ++ sha256 (front ++ body))
    → HasMade old tag kept read → HasMade new tag kept read
digest_made old new tag kept read limit all' more mark frame whole at some next made has = record {
  store = has.store;
  fits = has.fits;
  mark = mark ∙ has.mark;
  rows = has.rows;
  same = subst (λ b. IsPermutation (rows_upto b new.last.items kept.rows) has.rows) (sym whole)
      (rows_all kept.rows old.last.items limit has.rows some next
      (subst (λ b. IsPermutation (rows_upto b old.last.items kept.rows) has.rows) more has.same));
  ascend = has.ascend;
  spelled = ap₂ (λ (a b : List ℕ). a ++ b)
      (read_all old tag kept read all' has ∙ ap (λ b. bytes_upto b tag kept has.rows) more)
      (ap (λ n. drop n new.made.items) at ∙ made (front_of tag kept) (body_to kept has.rows) has.put)
      ∙ ap (λ b. bytes_upto b tag kept has.rows) (sym whole);
  put = subst (λ f. HasPut f (front_of tag kept) (body_to kept has.rows)) (sym frame) has.put;
}

-- all that was read, at the end
pub whole_read : (saver : Saver) (tag : ℕ) (kept : StoreView) (read : List ℕ) → saver.is_whole ≡ true
    → length saver.made.items ≤ saver.at → HasMade saver tag kept read → AreOfStore read tag kept
whole_read saver tag kept read whole all' has =
    subst (λ (l : List ℕ). AreOfStore l tag kept)
    (sym (read_all saver tag kept read all' has ∙ ap (λ b. bytes_upto b tag kept has.rows) whole))
    (sorted_whole tag kept has.rows has.store has.fits
    (subst (λ b. IsPermutation (rows_upto b saver.last.items kept.rows) has.rows) whole has.same) has.ascend)

-- ---- what is read

drop_on : (i n : ℕ) (l : List ℕ) → drop (i + n) l ≡ drop n (drop i l)
drop_on zero n l = ap (λ k. drop k l) (zero-add n)
drop_on (suc i) n [] = drop-nil (suc i + n) ∙ sym (drop-nil n)
drop_on (suc i) n (x ∷ l) =
    let so : suc i + n ≡ suc (i + n) = omega arith in
    ap (λ k. drop k (x ∷ l)) so ∙ drop_on i n l

pub some_read : (old : Saver) (n : ℕ) (tag : ℕ) (kept : StoreView) (read : List ℕ) → HasMade old tag kept read
    → HasMade (record old { at = old.at + n }) tag kept (read ++ take n (drop old.at old.made.items))
some_read old n tag kept read has =
    let left : List ℕ = drop old.at old.made.items in
    record {
      store = has.store;
      fits = has.fits;
      mark = has.mark;
      rows = has.rows;
      same = has.same;
      ascend = has.ascend;
      spelled = ap (λ (l : List ℕ). (read ++ take n left) ++ l) (drop_on old.at n old.made.items)
          ∙ append_assoc read (take n left) (drop n left)
          ∙ ap (λ (l : List ℕ). read ++ l) (take-append-drop n left) ∙ has.spelled;
      put = has.put;
    }

-- what follows if it is so on success
pub on_ok : {A E P Q : Type 0} (r : Result A E) → (P → Q) → OnOk r P → OnOk r Q
on_ok (Ok a) then so = then so
on_ok (Err e) then so = tt

pub of_ok : {A E P : Type 0} (r : Result A E) (b : Bool) → b ≡ is_err r → b ≡ false → OnOk r P → P
of_ok (Ok a) b is fine so = so
of_ok (Err e) b is fine so = absurd (cc (is, fine))

-- ---- the buffer

-- bytes that were put at a place
module _ (out new piece : List ℕ) (at n : ℕ) (within : at ≤ length out) (long : n ≡ length piece)
    (put : new ≡ take at out ++ (piece ++ drop (at + n) out)) where
  abbrev front : List ℕ
  front = take at out ++ piece

  whole : new ≡ front ++ drop (at + n) out
  whole = put ∙ sym (append_assoc (take at out) piece (drop (at + n) out))

  long_front : length front ≡ at + n
  long_front =
      let a = length-append (take at out) piece in
      let b = length-take at out in
      omega (arith, a, b, within, long)

  pub put_front : take (at + n) new ≡ front
  put_front =
      ap (take (at + n)) whole ∙ ap (λ k. take k (front ++ drop (at + n) out)) (sym long_front)
      ∙ take-append_seam front (drop (at + n) out)

  pub put_rest : drop (at + n) new ≡ drop (at + n) out
  put_rest =
      ap (drop (at + n)) whole ∙ ap (λ k. drop k (front ++ drop (at + n) out)) (sym long_front)
      ∙ drop-append_seam front (drop (at + n) out)

either : (a b c d : ℕ) → ((a ≡ b → ⊥) → (d < c) → ⊥) → (a ≡ b) ⊎ (c ≤ d)
either a b c d so = elim (cases_eq a b) [
  | inl is ↦ inl is
  | inr not ↦ elim (cases_lt d c) [
    | inl lt ↦ absurd (so not lt)
    | inr le ↦ inr le
  ]
]

-- What the reading has done so far, after some turns: this many bytes are in the buffer, which are the next ones; it
-- goes on while it is not full, and all that was made is read.
pub record Reads (core : StoreView) (first now : Saver) (old new : List ℕ) (len all' turns : ℕ) : Type 0 where
  pub room : all' ≡ length old
  pub within : len ≤ all'
  pub long : length new ≡ length old
  pub rest : drop len new ≡ drop len old
  pub done : (len ≡ all') ⊎ (length now.made.items ≤ now.at)
  pub made : (tag : ℕ) (read : List ℕ) → HasMade first tag core read → HasMade now tag core (read ++ take len new)
  pub some : 0 < turns → 0 < len
  pub fresh : len ≡ 0 → (now ≡ first) × (new ≡ old)

-- this many of the bytes that were made are read
pub takes : (core : StoreView) (first mid now : Saver) (old out new : List ℕ) (len room n turns : ℕ)
    → room ≡ length old → len ≤ room → length out ≡ length old → drop len out ≡ drop len old
    → n ≡ min (length (drop mid.at mid.made.items)) (length out - len)
    → new ≡ take len out ++ (take n (drop mid.at mid.made.items) ++ drop (len + n) out)
    → now ≡ record mid { at = mid.at + n }
    → ((tag : ℕ) (read : List ℕ) → HasMade first tag core read → HasMade mid tag core (read ++ take len out))
    → (0 < turns → 0 < len + n) → (len + n ≡ 0 → (now ≡ first) × (new ≡ old))
    → Reads core first now old new (len + n) room turns
takes core first mid now old out new len room n turns is_room within long rest many put is made some fresh =
    let left : List ℕ = drop mid.at mid.made.items in
    let piece : List ℕ = take n left in
    let has = length-take n left in
    let is_long : n ≡ length piece = omega (arith, has, many) in
    let inside : len ≤ length out = omega (arith, within, is_room, long) in
    let a = length-append (take len out) (piece ++ drop (len + n) out) in
    let b = length-append piece (drop (len + n) out) in
    let d = length-drop (len + n) out in
    let e = length-take len out in
    let f = ap length put in
    let g = length-drop mid.at mid.made.items in
    let more : List ℕ → List ℕ → List ℕ = λ x y. x ++ y in
    record {
      room = is_room;
      within = omega (arith, many, inside, is_room, long);
      long = omega (arith, a, b, d, e, f, is_long, many, inside, long);
      rest = put_rest out new piece len n inside is_long put ∙ drop_on len n out ∙ ap (drop n) rest
          ∙ sym (drop_on len n old);
      done = subst (λ (s : Saver). (len + n ≡ room) ⊎ (length s.made.items ≤ s.at)) (sym is)
          (either (len + n) room (length mid.made.items) (mid.at + n) (omega (arith, many, g, inside, is_room, long)));
      made = λ tag read has.
          subst (λ (s : Saver). HasMade s tag core (read ++ take (len + n) new)) (sym is)
          (subst (λ (l : List ℕ). HasMade (record mid { at = mid.at + n }) tag core l)
          (append_assoc read (take len out) piece
          ∙ ap (λ (l : List ℕ). read ++ l) (sym (put_front out new piece len n inside is_long put)))
          (some_read mid n tag core (read ++ take len out) (made tag read has)));
      some = some;
      fresh = fresh;
    }

-- before the first turn
pub takes_first : (core : StoreView) (first now : Saver) (old new : List ℕ) (n : ℕ)
    → n ≡ min (length (drop first.at first.made.items)) (length old - 0)
    → new ≡ take 0 old ++ (take n (drop first.at first.made.items) ++ drop (0 + n) old)
    → now ≡ record first { at = first.at + n } → Reads core first now old new n (length old) 0
takes_first core first now old new n many put is =
    subst (λ k. Reads core first now old new k (length old) 0) (zero-add n)
    (takes core first first now old old new 0 (length old) n 0 refl (omega arith) refl refl many put is
    (λ tag read has. subst (HasMade first tag core) (sym (append-nil read)) has) (λ lt. absurd (omega (arith, lt)))
    (λ none.
    let zero : n ≡ 0 = omega (arith, none) in
    let stays : first.at + n ≡ first.at = omega (arith, zero) in (
      is ∙ ap (λ k. record first { at = k }) stays,
      put ∙ ap (λ k. take 0 old ++ (take k (drop first.at first.made.items) ++ drop (0 + k) old)) zero,
    )))

-- one more turn, which made some bytes
pub takes_more : (core : StoreView) (first before mid now : Saver) (old out new : List ℕ) (len n turns : ℕ)
    → Reads core first before old out len (length old) turns → (len ≡ length old → ⊥)
    → (mid.at ≡ 0) × (0 < length mid.made.items)
    → ((tag : ℕ) (read : List ℕ) → HasMade before tag core read → HasMade mid tag core read)
    → n ≡ min (length (drop mid.at mid.made.items)) (length out - len)
    → new ≡ take len out ++ (take n (drop mid.at mid.made.items) ++ drop (len + n) out)
    → now ≡ record mid { at = mid.at + n } → Reads core first now old new (len + n) (length old) (turns + 1)
takes_more core first before mid now old out new len n turns so not_full (start, some) made many put is =
    let left = length-drop mid.at mid.made.items in
    let within = so.within in
    let long = so.long in
    let more : 0 < len + n = omega (arith, left, start, some, many, within, long, not_full) in
    takes core first mid now old out new len (length old) n (turns + 1) refl so.within so.long so.rest many put is
    (λ tag read has. made tag (read ++ take len out) (so.made tag read has)) (λ _. more)
    (λ none. absurd (omega (arith, none, more)))

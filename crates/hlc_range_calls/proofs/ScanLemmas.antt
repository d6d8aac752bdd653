-- The items that were put into a buffer so far, in a list that may be cut.
use Rattle.std.proofs.Common.{◌≡◌, ℕ, ◌+◌, ◌*◌, ◌-◌, ◌<◌, ◌≤◌, ◌∙◌, sym, ap, subst, List, [], ◌∷◌, ◌++◌, drop, refl}
use Rattle.std.proofs.Common.{length, arith, length-append, Option, Some, Bool, true, false, reverse}
use Rattle.std.proofs.lemmas.{List.append-nil, List.append_assoc, List.length-drop, Grind.flat_map-append}
use Rattle.hlc_rows.specs.{declared.row.Row.Row, Rows.answer}
use Rattle.hlc_columns.specs.Answers.{AreAnswers, AreAnswersBack, IsBetween}
use Rattle.hlc_wire.specs.Placing.{with_bytes}
use Rattle.hlc_range_calls.specs.{Listing.narrowed, Listing.pair_bytes, Scan.end_of, Scan.part_bytes, Scan.parts_bytes}
use Rattle.hlc_range_calls.specs.{Scan.ListsWhatFits, Scan.ReturnsScan, Scan.ReturnsCount, Scan.ReturnsScanBack}
use Rattle.hlc_wire.proofs.PlacingLemmas.{put_both}
use Rattle.hlc_range_calls.proofs.{ByteLemmas.pair_length, PairLemmas.same_answers}

abbrev Pair : Type 0
Pair = List ℕ × List ℕ

-- a key takes 8 bytes at least
pub part_length : (alone : Bool) (pair : Pair) → 8 ≤ length (part_bytes alone pair)
part_length true pair = omega arith
part_length false pair = let both = pair_length pair in omega (arith, both)

pub length-put : (bytes old : List ℕ) → length bytes ≤ length old → length (with_bytes 0 bytes old) ≡ length old
length-put bytes old fits =
    let both : length (with_bytes 0 bytes old) ≡ length bytes + length (drop (0 + length bytes) old) =
    length-append bytes (drop (0 + length bytes) old) in
    omega (arith, both, length-drop (0 + length bytes) old, fits)

module _ {X : Type 0} (part : X → List ℕ) where
  -- the items before those that are left are at the start of the buffer
  abbrev pub PutSoFar : List X → List X → ℕ → ℕ → List ℕ → List ℕ → Type 0
  PutSoFar all left at count old out =
      (done : List X) × (all ≡ done ++ left) × (at ≡ length (parts_bytes part done)) × (count ≡ length done)
      × (at ≤ length old) × (out ≡ with_bytes 0 (parts_bytes part done) old)

  many_bytes : ((item : X) → 8 ≤ length (part item)) → (items : List X)
      → 8 * length items ≤ length (parts_bytes part items)
  many_bytes long [] = omega arith
  many_bytes long (item ∷ items) =
      let rest = many_bytes long items in
      let both = length-append (part item) (parts_bytes part items) in
      let first = long item in
      omega (arith, rest, both, first)

  pub room-left : (all left : List X) (at count : ℕ) (old out : List ℕ) → PutSoFar all left at count old out
      → (length out ≡ length old) × (at ≤ length out)
  room-left all left at count old out so =
      let same : length out ≡ length old =
      ap length so.5 ∙ length-put (parts_bytes part so.0) old (omega (arith, so.2, so.4)) in
      (same, omega (arith, same, so.4))

  pub few-put : ((item : X) → 8 ≤ length (part item)) → (all left : List X) (at count : ℕ) (old out : List ℕ)
      → PutSoFar all left at count old out → 8 * count ≤ at
  few-put long all left at count old out so =
      let many = many_bytes long so.0 in omega (arith, many, so.2, so.3)

  pub put-one : (all left next : List X) (item : X) (at end count : ℕ) (old out new : List ℕ)
      → PutSoFar all left at count old out → left ≡ item ∷ next → at + length (part item) ≤ length out
      → end ≡ at + length (part item) → new ≡ with_bytes at (part item) out
      → PutSoFar all next end (count + 1) old new
  put-one all left next item at end count old out new so is fits ends put =
      let done = so.0 in
      let same = (room-left all left at count old out so).0 in
      let before = parts_bytes part done in
      let bytes : parts_bytes part (done ++ item ∷ []) ≡ before ++ part item =
      flat_map-append part done (item ∷ []) ∙ ap (λ xs. before ++ xs) (append-nil (part item)) in
      let long : length (parts_bytes part (done ++ item ∷ [])) ≡ length before + length (part item) =
      ap length bytes ∙ length-append before (part item) in (
        done ++ item ∷ [],
        so.1 ∙ ap (λ (ps : List X). done ++ ps) is ∙ sym (append_assoc done (item ∷ []) next),
        omega (arith, ends, long, so.2),
        (let n = length-append done (item ∷ []) in omega (arith, n, so.3)),
        omega (arith, ends, fits, same),
        put_both 0 at before (part item) old out new so.5 (omega (arith, so.2)) put
            (let n = length-append before (part item) in omega (arith, n, so.2, fits, same))
            ∙ ap (λ (bs : List ℕ). with_bytes 0 bs old) (sym bytes),
      )

  pub all-put : (all : List X) (at count : ℕ) (old out : List ℕ) → PutSoFar all [] at count old out
      → ListsWhatFits part all 0 at count old out
  all-put all at count old out so = record {
    first = so.0;
    rest = [];
    items_are = so.1;
    many_is = so.3;
    len_is = so.2;
    fits = so.4;
    bytes = so.5;
    end = refl;
  }

  pub cut-here : (all left next : List X) (item : X) (at count : ℕ) (old out : List ℕ)
      → PutSoFar all left at count old out → left ≡ item ∷ next → length out - at < length (part item)
      → ListsWhatFits part all 104 at count old out
  cut-here all left next item at count old out so is short =
      let room = room-left all left at count old out so in
      record {
        first = so.0;
        rest = item ∷ next;
        items_are = so.1 ∙ ap (λ (ps : List X). so.0 ++ ps) is;
        many_is = so.3;
        len_is = so.2;
        fits = so.4;
        bytes = so.5;
        end = (refl, omega (arith, short, room.0, room.1));
      }

-- what is said of the pairs of a range is said of the scan of a snapshot
pub scanned_at : (alone : Bool) (rows others : List Row) (at : Option ℕ) (stamp : ℕ) (from to : List ℕ)
    (end : Option (List ℕ)) (pairs : List Pair) (code len many : ℕ) (old new : List ℕ) → at ≡ Some stamp
    → ((key : List ℕ) → answer rows key stamp ≡ answer others key stamp) → end ≡ end_of to
    → AreAnswers rows stamp (IsBetween from end) pairs → ListsWhatFits (part_bytes alone) pairs code len many old new
    → ReturnsScan alone at others from to code len many old new
scanned_at alone rows others at stamp from to end pairs code len many old new is alike ends are returned =
    subst (λ o. ReturnsScan alone o others from to code len many old new) (sym is) (
      pairs,
      subst (λ e. AreAnswers others stamp (IsBetween from e) pairs) ends
          (same_answers rows others stamp (IsBetween from end) pairs are alike),
      returned,
    )

pub counted_at : (rows others : List Row) (at : Option ℕ) (stamp : ℕ) (from to : List ℕ) (end : Option (List ℕ))
    (pairs : List Pair) (many : ℕ) → at ≡ Some stamp
    → ((key : List ℕ) → answer rows key stamp ≡ answer others key stamp) → end ≡ end_of to
    → AreAnswers rows stamp (IsBetween from end) pairs → many ≡ narrowed (length pairs)
    → ReturnsCount at others from to 0 many
counted_at rows others at stamp from to end pairs many is alike ends are returned =
    subst (λ o. ReturnsCount o others from to 0 many) (sym is) (
      refl,
      (
        pairs,
        subst (λ e. AreAnswers others stamp (IsBetween from e) pairs) ends
            (same_answers rows others stamp (IsBetween from end) pairs are alike),
        returned,
      ),
    )

pub scanned_back_at : (rows others : List Row) (at : Option ℕ) (stamp : ℕ) (from to : List ℕ) (end : Option (List ℕ))
    (pairs : List Pair) (code len many : ℕ) (old new : List ℕ) → at ≡ Some stamp
    → ((key : List ℕ) → answer rows key stamp ≡ answer others key stamp) → end ≡ end_of to
    → AreAnswersBack rows stamp (IsBetween from end) pairs → ListsWhatFits pair_bytes pairs code len many old new
    → ReturnsScanBack at others from to code len many old new
scanned_back_at rows others at stamp from to end pairs code len many old new is alike ends are returned =
    subst (λ o. ReturnsScanBack o others from to code len many old new) (sym is) (
      pairs,
      subst (λ e. AreAnswersBack others stamp (IsBetween from e) pairs) ends
          (same_answers rows others stamp (IsBetween from end) (reverse pairs) are alike),
      returned,
    )

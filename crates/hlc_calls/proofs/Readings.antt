-- The answers that were put into a buffer so far.
use Rattle.std.proofs.Common.{◌≡◌, ℕ, ◌+◌, ◌<◌, ◌≤◌, ◌∙◌, sym, ap, ap₂, subst, List, [], ◌∷◌, ◌++◌, take, get_or}
use Rattle.std.proofs.Common.{length, refl, arith, length-append, inl, inr, Option, Some, true}
use Rattle.std.proofs.lemmas.{List.append-nil, List.take_more, List.Elements.All-more, Grind.flat_map-append}
use Rattle.hlc_rows.specs.{declared.row.Row.Row, Rows.answer}
use Rattle.hlc_calls.specs.{declared.reads.Place.Place, Entries.piece, Entries.lies}
use Rattle.hlc_wire.specs.Placing.{with_bytes}
use Rattle.hlc_calls.specs.ReadAll.{answer_bytes, answer_at, answers_at, AreThere, IsLeftOut, ReturnsAnswers}
use Rattle.hlc_calls.specs.ReadAll.{ReturnsAll}
use Rattle.hlc_wire.proofs.PlacingLemmas.{put_both}
use Rattle.hlc_range_calls.proofs.ScanLemmas.{length-put}

-- the bytes contain the keys at the first places, and the answers of these are at the start of the buffer
abbrev pub AnsweredSoFar : List Row → ℕ → List Place → List ℕ → ℕ → ℕ → List ℕ → List ℕ → Type 0
AnsweredSoFar rows stamp places bytes index at old out =
    (index ≤ length places) × (at ≡ length (answers_at rows stamp bytes (take index places)))
    × (at ≤ length old) × (out ≡ with_bytes 0 (answers_at rows stamp bytes (take index places)) old)
    × AreThere bytes (take index places)

pub same-room : (rows : List Row) (stamp : ℕ) (places : List Place) (bytes : List ℕ) (index at : ℕ) (old out : List ℕ)
    → AnsweredSoFar rows stamp places bytes index at old out → length out ≡ length old
same-room rows stamp places bytes index at old out so =
    ap length so.3 ∙ length-put (answers_at rows stamp bytes (take index places)) old (omega (arith, so.1, so.2))

more : (rows : List Row) (stamp : ℕ) (places : List Place) (bytes : List ℕ) (index : ℕ) (place : Place)
    → index < length places → place ≡ get_or places index place
    → answers_at rows stamp bytes (take (index + 1) places)
    ≡ answers_at rows stamp bytes (take index places) ++ answer_at rows stamp bytes place
more rows stamp places bytes index place lt is =
    ap (answers_at rows stamp bytes) (take_more places index place lt
    ∙ ap (λ (p : Place). take index places ++ p ∷ []) (sym is))
    ∙ flat_map-append (answer_at rows stamp bytes) (take index places) (place ∷ [])
    ∙ ap (λ (xs : List ℕ). answers_at rows stamp bytes (take index places) ++ xs)
    (append-nil (answer_at rows stamp bytes place))

-- the bytes contain one more key
there-more : (bytes : List ℕ) (places : List Place) (index : ℕ) (place : Place) → index < length places
    → place ≡ get_or places index place → lies place.at place.len bytes ≡ true
    → AreThere bytes (take index places) → AreThere bytes (take (index + 1) places)
there-more bytes places index place lt is there before =
    All-more (λ p. lies p.at p.len bytes ≡ true) places index place lt before
    (subst (λ (p : Place). lies p.at p.len bytes ≡ true) is there)

-- one more answer
pub answered-more : (rows : List Row) (stamp : ℕ) (places : List Place) (bytes : List ℕ) (index at end : ℕ)
    (place : Place) (old out new : List ℕ)
    → AnsweredSoFar rows stamp places bytes index at old out → index < length places
    → place ≡ get_or places index place → lies place.at place.len bytes ≡ true
    → end ≡ at + length (answer_at rows stamp bytes place) → end ≤ length out
    → new ≡ with_bytes at (answer_at rows stamp bytes place) out
    → AnsweredSoFar rows stamp places bytes (index + 1) end old new
answered-more rows stamp places bytes index at end place old out new so lt is there ends fits put =
    let room = same-room rows stamp places bytes index at old out so in
    let one = answer_at rows stamp bytes place in
    let first = answers_at rows stamp bytes (take index places) in
    let all = more rows stamp places bytes index place lt is in
    let both : length (first ++ one) ≡ length first + length one = length-append first one in (
      omega (arith, lt),
      (let long = ap length all in omega (arith, long, both, ends, so.1)),
      omega (arith, fits, room),
      put_both 0 at first one old out new so.3 (omega (arith, so.1)) put
          (omega (arith, both, ends, fits, room, so.1))
          ∙ ap (λ (xs : List ℕ). with_bytes 0 xs old) (sym all),
      there-more bytes places index place lt is there so.4,
    )

not-zero : (rows : List Row) (stamp : ℕ) (bytes : List ℕ) (place : Place) (len room : ℕ)
    → IsLeftOut rows stamp bytes place len room 0 → ⊥
not-zero rows stamp bytes place len room (inl is) = omega (arith, is.0)
not-zero rows stamp bytes place len room (inr is) = omega (arith, is.0)

-- the next key is left out
pub left-out : (rows : List Row) (stamp : ℕ) (places : List Place) (bytes : List ℕ) (index at code : ℕ)
    (place : Place) (old out new : List ℕ)
    → AnsweredSoFar rows stamp places bytes index at old out → index < length places
    → place ≡ get_or places index place → IsLeftOut rows stamp bytes place at (length out) code → new ≡ out
    → ReturnsAnswers rows stamp places bytes code at index old new
left-out rows stamp places bytes index at code place old out new so lt is out-is same = record {
  most = so.0;
  within = so.4;
  len_is = so.1;
  fits = so.2;
  answers = same ∙ so.3;
  all = λ zero. absurd (not-zero rows stamp bytes place at (length out)
      (subst (λ n. IsLeftOut rows stamp bytes place at (length out) n) zero out-is));
  next = λ other. (
    place,
    lt,
    is,
    subst (λ n. IsLeftOut rows stamp bytes place at n code)
        (same-room rows stamp places bytes index at old out so) out-is,
  );
}

-- rows that answer alike have the same answers as bytes
alike-bytes : (rows others : List Row) (stamp : ℕ) (bytes : List ℕ) (places : List Place)
    → ((key : List ℕ) → answer rows key stamp ≡ answer others key stamp)
    → answers_at rows stamp bytes places ≡ answers_at others stamp bytes places
alike-bytes rows others stamp bytes [] alike = refl
alike-bytes rows others stamp bytes (place ∷ places) alike =
    ap₂ (λ (x y : List ℕ). x ++ y) (ap answer_bytes (alike (piece place.at place.len bytes)))
    (alike-bytes rows others stamp bytes places alike)

left-alike : (rows others : List Row) (stamp : ℕ) (bytes : List ℕ) (place : Place) (len room code : ℕ)
    → ((key : List ℕ) → answer rows key stamp ≡ answer others key stamp)
    → IsLeftOut rows stamp bytes place len room code → IsLeftOut others stamp bytes place len room code
left-alike rows others stamp bytes place len room code alike (inl is) = inl is
left-alike rows others stamp bytes place len room code alike (inr is) =
    inr (
      is.0,
      is.1,
      subst (λ (o : Option (List ℕ)). room < len + length (answer_bytes o))
          (alike (piece place.at place.len bytes)) is.2,
    )

-- what is said of a view's rows is said of the snapshot's
pub read-at : (rows others : List Row) (snapshot : Option ℕ) (stamp : ℕ) (places : List Place) (bytes : List ℕ)
    (code len many : ℕ) (old new : List ℕ) → snapshot ≡ Some stamp
    → ((key : List ℕ) → answer rows key stamp ≡ answer others key stamp)
    → ReturnsAnswers rows stamp places bytes code len many old new
    → ReturnsAll snapshot others places bytes code len many old new
read-at rows others snapshot stamp places bytes code len many old new is alike returned =
    let same = alike-bytes rows others stamp bytes (take many places) alike in
    subst (λ o. ReturnsAll o others places bytes code len many old new) (sym is) (record {
      most = returned.most;
      within = returned.within;
      len_is = returned.len_is ∙ ap length same;
      fits = returned.fits;
      answers = returned.answers ∙ ap (λ (xs : List ℕ). with_bytes 0 xs old) same;
      all = returned.all;
      next = λ other.
          let left = returned.next other in
          (left.0, left.1, left.2, left-alike rows others stamp bytes left.0 len (length old) code alike left.3);
    })

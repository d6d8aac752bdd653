-- A checkpoint that is read in blocks is the one that is read at once.
use Rattle.std.proofs.Common.{◌≡◌, ℕ, ◌+◌, ◌-◌, ◌<◌, ◌≤◌, cond, List, [], ◌++◌, length, take, drop, Result, Ok, Err}
use Rattle.std.proofs.Common.{refl, sym, ap, subst, ◌∙◌, arith, append_assoc, inl, inr, length-append, OnOk, OnErr}
use Rattle.std.proofs.Common.{is_ok, append-nil, take-append-drop, length-take, length-drop}
use Rattle.std.proofs.lemmas.{Bool.cases_lt, List.take-append-le, List.get_or_append_left, List.get_or-append_right}
use Rattle.hlc_wire.specs.{declared.fault.WireFault.WireFault, Reading.◌>>=◌, Reading.whole}
use Rattle.hlc_wire.proofs.FieldLemmas.{IsBytes, bind_ok, ok_is, done}
use Rattle.hlc_frame.specs.{declared.front.Front.Front, Opening.front_at, Opening.opened}
use Rattle.hlc_frame.specs.Reading.{body_after, body_so_far, tag_of}
use Rattle.hlc_frame.proofs.ListLemmas.{drop_over}
use Rattle.hlc_frame.proofs.FrontLemmas.{with_rest}
use Rattle.hlc_frame.proofs.BlockLemmas.{body_cut}
use Rattle.hlc_frame.proofs.FrameLemmas.{opened_body}
use Rattle.hlc_saved.specs.declared.{stage.Stage.Stage, parts.PartsReader.PartsReader}
use Rattle.hlc_saved.{specs.declared.reader.CheckpointReader.CheckpointReader, proofs.Stages.dropped_back}
use Rattle.hlc_body.specs.Reading.{checkpoint_at, saved}
use Rattle.hlc_saved.specs.Blocks.{Reader, Leaves, PartsLeave, HasRead, rows_after}
use Rattle.hlc_frame.specs.Reading as frames
use Rattle.hlc_saved.specs.declared.stage.Stage.TheVariants as stages

-- ---- the pending bytes

-- the remaining bytes are the last ones of all
pub pending_back : (bytes : List ℕ) (at : ℕ) (rest : List ℕ) → (front : List ℕ) × (drop at bytes ≡ front ++ rest)
    → drop (length bytes - length rest) bytes ≡ rest
pending_back bytes at rest back =
    dropped_back bytes rest (
      take at bytes ++ back.0,
      sym (take-append-drop at bytes) ∙ ap (λ (l : List ℕ). take at bytes ++ l) back.1
          ∙ sym (append_assoc (take at bytes) back.0 rest),
    )

-- more bytes are pending, and fewer follow
leaves_longer : (stage : Stage) (pending bytes : List ℕ) (read : Reader) → Leaves stage pending read
    → Leaves stage (pending ++ bytes) (λ more. read (bytes ++ more))
leaves_longer stages.Start pending bytes read has = λ more.
    ap checkpoint_at (append_assoc pending bytes more) ∙ has (bytes ++ more)
leaves_longer (stages.Rows growing left) pending bytes read has =
    (has.0, has.1, λ more. ap (rows_after has.0 left) (append_assoc pending bytes more) ∙ has.2 (bytes ++ more))
leaves_longer (stages.Wrong fault) pending bytes read has = λ more. has (bytes ++ more)

pub leaves_alike : (stage : Stage) (bytes : List ℕ) (read other : Reader)
    → ((more : List ℕ) → read more ≡ other more)
    → Leaves stage bytes read → Leaves stage bytes other
leaves_alike stages.Start bytes read other same has = λ more. has more ∙ same more
leaves_alike (stages.Rows growing left) bytes read other same has =
    (has.0, has.1, λ more. has.2 more ∙ same more)
leaves_alike (stages.Wrong fault) bytes read other same has = λ more. has more ∙ same more

pub taken : {E : Type 0} (r : Result (Unit {0}) E) (stage : Stage) (at : ℕ) (old new bytes : List ℕ) (read : Reader)
    → at ≡ 0 → new ≡ cond (is_ok r) (old ++ bytes) old → Leaves stage (drop at old) read
    → OnOk r (Leaves stage (drop at new) (λ more. read (bytes ++ more)))
taken (Err e) stage at old new bytes read none is has = tt
taken (Ok u) stage at old new bytes read none is has =
    subst (λ (l : List ℕ). Leaves stage l (λ more. read (bytes ++ more)))
    (sym (ap (drop at) is ∙ ap (λ (n : ℕ). drop n (old ++ bytes)) none))
    (leaves_longer stage old bytes read
    (subst (λ (l : List ℕ). Leaves stage l read) (ap (λ (n : ℕ). drop n old) none) has))

-- ---- the frame

pub nothing_fed : body_so_far [] ≡ []
unfolding body_so_far front_at
nothing_fed = refl

-- the part of the body that follows a front
abbrev body_of : Result (Front × List ℕ) WireFault → List ℕ → List ℕ
body_of found rest = body_after (found >>= with_rest rest)

body_short : (found : Result (Front × List ℕ) WireFault) (rest : List ℕ) → length (body_of found rest) ≤ length rest
body_short (Ok front) rest = omega (arith, length-take front.0.len rest)
body_short (Err fault) rest = omega arith

body_more : (found : Result (Front × List ℕ) WireFault) (rest block : List ℕ)
    → length (body_of found (rest ++ block)) ≤ length (body_of found rest) + length block
body_more (Ok front) rest block =
    omega (arith, length-take front.0.len rest, length-take front.0.len (rest ++ block), length-append rest block)
body_more (Err fault) rest block = omega arith

none_left : (n : ℕ) → 20 ≤ n → 20 - n ≡ 0
none_left n le = omega arith

-- a block adds no more to the body than its bytes
pub body_grows : (fed block : List ℕ) → length (body_so_far (fed ++ block)) ≤ length (body_so_far fed) + length block
body_grows fed block =
    let now : length (body_so_far (fed ++ block))
    ≡ length (body_of (front_at (take 20 (fed ++ block))) (drop 20 (fed ++ block))) =
    ap length (body_cut (fed ++ block)) in
    let before : length (body_so_far fed) ≡ length (body_of (front_at (take 20 fed)) (drop 20 fed)) =
    ap length (body_cut fed) in
    elim (cases_lt (length fed) 20) [
      | inl lt ↦
          let short = body_short (front_at (take 20 (fed ++ block))) (drop 20 (fed ++ block)) in
          let d = length-drop 20 (fed ++ block) in
          let a = length-append fed block in
          omega (arith, now, short, d, a)
      | inr le ↦
          let same : take 20 (fed ++ block) ≡ take 20 fed = take-append-le 20 fed block le in
          let over : drop 20 (fed ++ block) ≡ drop 20 fed ++ block =
          drop_over 20 fed block ∙ ap (λ (n : ℕ). drop 20 fed ++ drop n block) (none_left (length fed) le) in
          let more = body_more (front_at (take 20 fed)) (drop 20 fed) block in
          let moved : length (body_of (front_at (take 20 (fed ++ block))) (drop 20 (fed ++ block)))
          ≡ length (body_of (front_at (take 20 fed)) (drop 20 fed ++ block)) =
          ap (λ (l : List ℕ). length (body_of (front_at l) (drop 20 (fed ++ block)))) same
          ∙ ap (λ (l : List ℕ). length (body_of (front_at (take 20 fed)) l)) over in
          omega (arith, now, before, more, moved)
    ]

pub piece_short : (fed block piece : List ℕ) → body_so_far fed ++ piece ≡ body_so_far (fed ++ block)
    → length piece ≤ length block
piece_short fed block piece e =
    let grows = body_grows fed block in
    let l = length-append (body_so_far fed) piece in
    let same : length (body_so_far fed ++ piece) ≡ length (body_so_far (fed ++ block)) = ap length e in
    omega (arith, grows, l, same)

-- ---- a block

both_bytes : (fed block : List ℕ) → IsBytes fed → IsBytes block → IsBytes (fed ++ block)
both_bytes fed block a b i =
    elim (cases_lt i (length fed)) [
      | inl lt ↦ rw (get_or_append_left fed block 0 i lt) (a i)
      | inr le ↦ rw (get_or-append_right fed block (length fed) i 0 refl le) (b (i - length fed))
    ]

pub fed_on : {E : Type 0} (r : Result (Unit {0}) E) (old new : CheckpointReader) (fed block piece : List ℕ)
    (after : PartsReader) → HasRead old fed → frames.HasRead new.frame (fed ++ block)
    → body_so_far fed ++ piece ≡ body_so_far (fed ++ block) → IsBytes block → new.parts ≡ after
    → ((read : Reader) → PartsLeave old.parts read → OnOk r (PartsLeave after (λ more. read (piece ++ more))))
    → OnOk r (HasRead new (fed ++ block))
fed_on (Err e) old new fed block piece after has frame body bytes is step = tt
fed_on (Ok u) old new fed block piece after has frame body bytes is step = record {
  frame = frame;
  bytes = both_bytes fed block has.bytes bytes;
  body = leaves_alike new.parts.stage (drop new.parts.at new.parts.pending.items)
      (λ more. checkpoint_at (body_so_far fed ++ (piece ++ more)))
      (λ more. checkpoint_at (body_so_far (fed ++ block) ++ more))
      (λ more. ap checkpoint_at (sym (append_assoc (body_so_far fed) piece more)
      ∙ ap (λ (l : List ℕ). l ++ more) body))
      (subst (λ (p : PartsReader). PartsLeave p (λ more. checkpoint_at (body_so_far fed ++ (piece ++ more)))) (sym is)
      (step (λ more. checkpoint_at (body_so_far fed ++ more)) has.body));
}

-- there is room for a piece of a block
pub fed_not : {E : Type 0} (P : Type 0) (r : Result (Unit {0}) E) (fed block piece : List ℕ) (len room : ℕ)
    → body_so_far fed ++ piece ≡ body_so_far (fed ++ block) → len + length block ≤ room
    → OnErr r (room < len + length piece) → OnErr r P
fed_not P (Ok u) fed block piece len room body enough full = tt
fed_not P (Err e) fed block piece len room body enough full =
    let short = piece_short fed block piece body in
    absurd (omega (arith, short, enough, full))

-- ---- the end

tag_read : (fed : List ℕ) (tag : ℕ) → tag_of fed ≡ Ok tag
    → saved fed ≡ (whole (checkpoint_at (body_so_far fed)) >>= λ kept. Ok (tag, kept))
tag_read fed tag e =
    let x = bind_ok (opened fed) (λ frame. Ok frame.0) tag e in
    let same : x.0.0 ≡ tag = ok_is x.0.0 tag x.2 in
    let body : body_so_far fed ≡ x.0.1 = opened_body fed x.0.0 x.0.1 x.1 in
    ap (λ (r : Result (ℕ × List ℕ) WireFault). r >>= λ frame. whole (checkpoint_at frame.1) >>= λ kept. done
    (frame.0, kept)) x.1
    ∙ ap (λ (l : List ℕ). whole (checkpoint_at l) >>= λ kept. done (x.0.0, kept)) (sym body)
    ∙ ap (λ (n : ℕ). whole (checkpoint_at (body_so_far fed)) >>= λ kept. done (n, kept)) same

-- what was fed, from the tag and the body
pub saved_fed : (fed : List ℕ) (tag : ℕ) → tag_of fed ≡ Ok tag
    → saved fed ≡ (whole (checkpoint_at (body_so_far fed ++ [])) >>= λ kept. Ok (tag, kept))
saved_fed fed tag e =
    tag_read fed tag e
    ∙ ap (λ (l : List ℕ). whole (checkpoint_at l) >>= λ kept. done (tag, kept)) (sym (append-nil (body_so_far fed)))

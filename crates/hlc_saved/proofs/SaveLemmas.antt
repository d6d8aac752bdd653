-- The result of reading some bytes has that encoding, and an encoding is read back; some bytes are the encoding of only
-- one tag and one checkpoint.
use Rattle.std.proofs.Common.{◌≡◌, ℕ, ◌+◌, ◌<◌, List, [], ◌++◌, length, take, get_or, Result, Ok, Err, refl, sym, ap}
use Rattle.std.proofs.Common.{subst, ◌∙◌, arith, inl, inr}
use Rattle.std.{specs.Prelude.IfOk, specs.Prelude.IfErr, proofs.lemmas.Bool.cases_lt}
use Rattle.std.proofs.lemmas.List.{append-nil, take_at, drop_at, get_or-take, get_or-drop, get_or_past}
use Rattle.sha2.specs.Sha256.{sha256}
use Rattle.hlc_core.specs.{Past.Step, StoreView.StoreView, StoreView.Represents}
use Rattle.hlc_checkpoint.specs.Checkpoint.{IsCheckpoint, IsCopyOf}
use Rattle.hlc_checkpoint.proofs.CheckpointLemmas.{sound-has_no_reason}
use Rattle.hlc_core.proofs.CheckpointLemmas.{copy-represents}
use Rattle.hlc_wire.specs.declared.fault.{WireFault.WireFault, DecodeError.DecodeError}
use Rattle.hlc_wire.specs.Reading.{◌>>=◌, Gives, whole}
use Rattle.hlc_wire.proofs.FieldLemmas.{IsBytes, bind_ok, ok_is, whole_takes, whole_again}
use Rattle.hlc_frame.specs.{Frame.front_bytes, Frame.frame_bytes, Frame.FrameFits, Opening.opened, Reading.tag_of}
use Rattle.hlc_frame.proofs.FrameLemmas.{opened_is_frame, frame_is_opened}
use Rattle.hlc_saved.specs.declared.{decode.Decoded.Decoded, saving.Resumed.Resumed, fault.ResumeError.ResumeError}
use Rattle.hlc_saved.specs.declared.fault.ResumeError.TheVariants.{NoMemory, Bytes, Parts}
use Rattle.hlc_body.specs.Spelling.{checkpoint_bytes, saved_bytes, CheckpointFits, SavedFits}
use Rattle.hlc_body.specs.Reading.{checkpoint_at, saved}
use Rattle.hlc_saved.specs.Saved.{AreFrame, AreOf, BytesRepresent, EndsWith, Resumes}
use Rattle.hlc_body.proofs.PartLemmas.{checkpoint_reader}

first_bytes : (xs ys : List ℕ) → IsBytes (xs ++ ys) → IsBytes xs
first_bytes xs ys h i =
    let front : take (length xs) (xs ++ ys) ≡ xs = take_at xs ys (length xs) refl in
    elim (cases_lt i (length xs)) [
      | inl lt ↦
          subst (λ (l : List ℕ). get_or l i 0 < 256) front (rw (get_or-take (length xs) (xs ++ ys) i 0 lt) (h i))
      | inr le ↦ rw (get_or_past xs i 0 le) (omega arith)
    ]

last_bytes : (xs ys : List ℕ) → IsBytes (xs ++ ys) → IsBytes ys
last_bytes xs ys h i =
    subst (λ (l : List ℕ). get_or l i 0 < 256) (drop_at xs ys (length xs) refl) (rw get_or-drop (h (length xs + i)))

-- the body of a frame of bytes has bytes
pub body_bytes : (bytes : List ℕ) (tag : ℕ) (body : List ℕ) → IsBytes bytes → bytes ≡ frame_bytes tag body
    → IsBytes body
body_bytes bytes tag body fits e =
    let front : List ℕ = front_bytes (length body) tag in
    last_bytes front body (first_bytes (front ++ body) (sha256 (front ++ body)) (subst IsBytes e fits))

abbrev with_tag : ℕ → Result StoreView WireFault → Result (ℕ × StoreView) WireFault
with_tag tag read = read >>= λ kept. Ok (tag, kept)

-- the bytes are the encoding of the result
pub saved_takes : (bytes : List ℕ) (tag : ℕ) (kept : StoreView) → IsBytes bytes → saved bytes ≡ Ok (tag, kept)
    → SavedFits tag kept × (bytes ≡ saved_bytes tag kept)
saved_takes bytes tag kept fits e =
    let a = bind_ok (opened bytes) (λ frame. with_tag frame.0 (whole (checkpoint_at frame.1))) (tag, kept) e in
    let b = bind_ok (whole (checkpoint_at a.0.1)) (λ k. Ok (a.0.0, k)) (tag, kept) a.2 in
    let f = opened_is_frame bytes a.0.0 a.0.1 fits a.1 in
    let inner : IsBytes a.0.1 = body_bytes bytes a.0.0 a.0.1 fits f.1 in
    let c = whole_takes checkpoint_at checkpoint_bytes CheckpointFits checkpoint_reader a.0.1 b.0 inner b.1 in
    let made : SavedFits a.0.0 b.0 × (bytes ≡ saved_bytes a.0.0 b.0) = (
      record { frame = subst (λ (l : List ℕ). FrameFits a.0.0 l) c.1 f.0; checkpoint = c.0 },
      f.1 ∙ ap (λ (l : List ℕ). frame_bytes a.0.0 l) c.1,
    ) in
    subst (λ (x : ℕ × StoreView). SavedFits x.0 x.1 × (bytes ≡ saved_bytes x.0 x.1))
    (ok_is (a.0.0, b.0) (tag, kept) b.2) made

-- the encoding of a tag and a checkpoint is read
pub saved_again : (tag : ℕ) (kept : StoreView) → SavedFits tag kept → saved (saved_bytes tag kept) ≡ Ok (tag, kept)
saved_again tag kept fits =
    ap (λ (r : Result (ℕ × List ℕ) WireFault). r >>= λ frame. with_tag frame.0 (whole (checkpoint_at frame.1)))
    (frame_is_opened tag (checkpoint_bytes kept) fits.frame)
    ∙ ap (with_tag tag)
    (whole_again checkpoint_at checkpoint_bytes CheckpointFits checkpoint_reader kept fits.checkpoint)

pub found : (r : Result Decoded DecodeError) (bytes : List ℕ) → IsBytes bytes
    → Gives (λ (made : Decoded). (made.tag, made.checkpoint)) r (saved bytes)
    → IfOk r (λ made. SavedFits made.tag made.checkpoint × (bytes ≡ saved_bytes made.tag made.checkpoint))
found (Ok made) bytes fits e = saved_takes bytes made.tag made.checkpoint fits e
found (Err error) bytes fits e = tt

-- bytes that are read are a frame
pub is_frame : (bytes : List ℕ) (tag : ℕ) (kept : StoreView) → saved bytes ≡ Ok (tag, kept) → AreFrame bytes
is_frame bytes tag kept e =
    let a = bind_ok (opened bytes) (λ frame. with_tag frame.0 (whole (checkpoint_at frame.1))) (tag, kept) e in
    (a.0, a.1)

-- so are bytes whose frame gave a tag
pub framed : (bytes : List ℕ) (tag : ℕ) → tag_of bytes ≡ Ok tag → AreFrame bytes
framed bytes tag e = (let a = bind_ok (opened bytes) (λ frame. Ok frame.0) tag e in (a.0, a.1))

-- what is in a frame, and that there is none
pub saved_body : (bytes : List ℕ) (tag : ℕ) (body : List ℕ) → opened bytes ≡ Ok (tag, body)
    → saved bytes ≡ (whole (checkpoint_at (body ++ [])) >>= λ kept. Ok (tag, kept))
saved_body bytes tag body e =
    ap (λ (r : Result (ℕ × List ℕ) WireFault). r >>= λ frame. with_tag frame.0 (whole (checkpoint_at frame.1))) e
    ∙ ap (λ (l : List ℕ). with_tag tag (whole (checkpoint_at l))) (sym (append-nil body))

pub saved_fault : (bytes : List ℕ) (fault : WireFault) → opened bytes ≡ Err fault → saved bytes ≡ Err fault
saved_fault bytes fault e =
    ap (λ (r : Result (ℕ × List ℕ) WireFault). r >>= λ frame. with_tag frame.0 (whole (checkpoint_at frame.1))) e

-- ---- stores

-- a store was made from what was read, or not
pub resumes : (r : Result Resumed ResumeError) (read : Result StoreView WireFault) (tag : ℕ) (bytes : List ℕ)
    → IsBytes bytes → saved bytes ≡ (read >>= λ kept. Ok (tag, kept)) → AreFrame bytes → EndsWith read tag r
    → Resumes bytes r
resumes (Ok made) read tag bytes fits e frame is =
    let kept : StoreView = is.0.0 in
    let found : saved bytes ≡ Ok (tag, kept) = e ∙ ap (with_tag tag) is.0.1 in
    let t = saved_takes bytes tag kept fits found in
    let of : AreOf bytes tag kept = record { spelled = t.1; fits = t.0; sound = is.0.2 } in
    (kept, subst (λ (n : ℕ). AreOf bytes n kept) (sym is.1) of, is.0.3)
resumes (Err NoMemory) read tag bytes fits e frame is = frame
resumes (Err (Bytes fault)) read tag bytes fits e frame is = e ∙ ap (with_tag tag) is
resumes (Err (Parts fault)) read tag bytes fits e frame is =
    (tag, is.0, e ∙ ap (with_tag tag) is.1, is.2)

-- there is one tag and one checkpoint
of_saved : (bytes : List ℕ) (tag : ℕ) (kept : StoreView) → AreOf bytes tag kept → saved bytes ≡ Ok (tag, kept)
of_saved bytes tag kept of = ap saved of.spelled ∙ saved_again tag kept of.fits

-- the bytes of a checkpoint are a frame
pub of_frame : (bytes : List ℕ) (tag : ℕ) (kept : StoreView) → AreOf bytes tag kept → AreFrame bytes
of_frame bytes tag kept of = is_frame bytes tag kept (of_saved bytes tag kept of)

same_saved : (bytes : List ℕ) (tag other : ℕ) (kept copy : StoreView) → saved bytes ≡ Ok (tag, kept)
    → saved bytes ≡ Ok (other, copy) → (other ≡ tag) × (copy ≡ kept)
same_saved bytes tag other kept copy a b =
    let same : (other, copy) ≡ (tag, kept) = ok_is (other, copy) (tag, kept) (sym b ∙ a) in
    (ap (λ (x : ℕ × StoreView). x.0) same, ap (λ (x : ℕ × StoreView). x.1) same)

pub resumed_tag : (r : Result Resumed ResumeError) (bytes : List ℕ) (tag : ℕ) (kept : StoreView)
    → AreOf bytes tag kept
    → Resumes bytes r → IfOk r (λ made. made.tag ≡ tag)
resumed_tag (Ok made) bytes tag kept of is =
    (same_saved bytes tag made.tag kept is.0 (of_saved bytes tag kept of) (of_saved bytes made.tag is.0 is.1)).0
resumed_tag (Err error) bytes tag kept of is = tt

pub resumed_represents : (r : Result Resumed ResumeError) (bytes : List ℕ) (tag : ℕ) (past : List Step)
    → BytesRepresent bytes tag past → Resumes bytes r → IfOk r (λ made. Represents made.core past)
resumed_represents (Ok made) bytes tag past of is =
    let same = same_saved bytes tag made.tag of.0 is.0 (of_saved bytes tag of.0 of.1)
    (of_saved bytes made.tag is.0 is.1) in
    copy-represents of.0 made.core past of.2 (subst (λ (k : StoreView). IsCopyOf k made.core) same.1 is.2)
resumed_represents (Err error) bytes tag past of is = tt

pub resumed_only : (r : Result Resumed ResumeError) (bytes : List ℕ) (tag : ℕ) (kept : StoreView)
    → AreOf bytes tag kept
    → Resumes bytes r → IfErr r (λ error. error ≡ NoMemory)
resumed_only (Ok made) bytes tag kept of is = tt
resumed_only (Err NoMemory) bytes tag kept of is = refl
resumed_only (Err (Bytes fault)) bytes tag kept of is =
    let read = of_saved bytes tag kept of in
    absurd (cc (is, read))
resumed_only (Err (Parts fault)) bytes tag kept of is =
    let same = same_saved bytes tag is.0 kept is.1 (of_saved bytes tag kept of) is.2 in
    absurd (sound-has_no_reason is.1 fault (subst IsCheckpoint (sym same.1) of.sound) is.3)

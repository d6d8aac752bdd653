-- A frame that is read is the frame that was written, and a frame that was written is read again, in one block or in
-- many.
use Rattle.std.proofs.Common.{◌≡◌, ℕ, ◌<◌, Bool, true, false, cond, eqb, List, ◌++◌, length, take, drop, Result, Ok}
use Rattle.std.proofs.Common.{Err, refl, sym, ap, subst, ◌∙◌, append_assoc, take_at}
use Rattle.sha2.specs.Sha256.{sha256}
use Rattle.hlc_wire.specs.declared.fault.WireFault.{WireFault, TheVariants.Trailing}
use Rattle.hlc_wire.specs.Reading.{◌>>=◌, whole}
use Rattle.hlc_wire.proofs.FieldLemmas.{bind_ok, guard_ended, IsReader, IsBytes, Takes, Takes-then, whole_takes}
use Rattle.hlc_wire.proofs.FieldLemmas.{whole_again}
use Rattle.hlc_frame.specs.declared.front.Front.{Front}
use Rattle.hlc_frame.specs.Frame.{front_bytes, sealed, frame_bytes, FrameFits}
use Rattle.hlc_frame.specs.Opening.{front_at, sealed_at, frame_at, opened}
use Rattle.hlc_frame.specs.Reading.{body_after, body_so_far, tag_after, tag_of}
use Rattle.hlc_frame.proofs.FrontLemmas.{front_reader, length-front, with_rest, front_cut}
use Rattle.hlc_frame.proofs.SealedLemmas.{sealed_body, sealed_takes, sealed_again}

abbrev pub text_of : ℕ × List ℕ → List ℕ
text_of frame = frame_bytes frame.0 frame.1

abbrev pub Fit : ℕ × List ℕ → Type 0
Fit frame = FrameFits frame.0 frame.1

abbrev framed : Front → List ℕ × List ℕ → Result ((ℕ × List ℕ) × List ℕ) WireFault
framed front body = Ok ((front.tag, body.0), body.1)

-- the parts of a frame that was read
record Parts (bytes : List ℕ) (frame : (ℕ × List ℕ) × List ℕ) : Type 0 where
  front : Front × List ℕ
  body : List ℕ × List ℕ
  front_is : front_at bytes ≡ Ok front
  body_is : sealed_at (take 20 bytes) front.0.len front.1 ≡ Ok body
  frame_is : ((front.0.tag, body.0), body.1) ≡ frame

abbrev a_frame : (ℕ × List ℕ) × List ℕ → Result ((ℕ × List ℕ) × List ℕ) WireFault
a_frame frame = Ok frame

frame_done : (x y : (ℕ × List ℕ) × List ℕ) → a_frame x ≡ a_frame y → x ≡ y
frame_done x y e = cc

frame_parts : (bytes : List ℕ) (frame : (ℕ × List ℕ) × List ℕ) → frame_at bytes ≡ Ok frame → Parts bytes frame
unfolding frame_at
frame_parts bytes frame e =
    let a = bind_ok (front_at bytes) (λ front. sealed_at
    (take 20 bytes) front.0.len front.1 >>= framed front.0) frame e in
    let b = bind_ok (sealed_at (take 20 bytes) a.0.0.len a.0.1) (framed a.0.0) frame a.2 in
    record {
      front = a.0;
      body = b.0;
      front_is = a.1;
      body_is = b.1;
      frame_is = frame_done ((a.0.0.tag, b.0.0), b.0.1) frame b.2;
    }

frame_takes : (bytes : List ℕ) (frame : (ℕ × List ℕ) × List ℕ) → IsBytes bytes → frame_at bytes ≡ Ok frame
    → Takes bytes (text_of frame.0) frame.1 × Fit frame.0
frame_takes bytes frame fits e =
    let p = frame_parts bytes frame e in
    let head : List ℕ = front_bytes p.front.0.len p.front.0.tag in
    let t = front_reader.takes bytes p.front fits p.front_is in
    let start : take 20 bytes ≡ head = ap (λ (l : List ℕ). take 20 l) t.0.parts
    ∙ take_at head p.front.1 20 (length-front p.front.0.len p.front.0.tag) in
    let u = sealed_takes (take 20 bytes) p.front.0.len p.front.1 p.body t.0.rest_fits p.body_is in
    let both = Takes-then bytes head p.front.1 (p.body.0 ++ sha256 (take 20 bytes ++ p.body.0)) p.body.1 t.0 u.0 in
    let grouped : head ++ (p.body.0 ++ sha256 (take 20 bytes ++ p.body.0)) ≡ sealed (head ++ p.body.0) =
    ap (λ (l : List ℕ). head ++ (p.body.0 ++ sha256 (l ++ p.body.0))) start
    ∙ sym (append_assoc head p.body.0 (sha256 (head ++ p.body.0))) in
    let sized : sealed (head ++ p.body.0) ≡ text_of (p.front.0.tag, p.body.0) =
    ap (λ (n : ℕ). sealed (front_bytes n p.front.0.tag ++ p.body.0)) (sym u.1) in
    let made : Takes bytes (text_of (p.front.0.tag, p.body.0)) p.body.1 =
    subst (λ (l : List ℕ). Takes bytes l p.body.1) (grouped ∙ sized) both in
    let small : length p.body.0 < 18446744073709551616 =
    subst (λ (n : ℕ). n < 18446744073709551616) (sym u.1) t.1.len_fits in
    subst (λ (y : (ℕ × List ℕ) × List ℕ). Takes bytes (text_of y.0) y.1 × Fit y.0) p.frame_is
    (made, record { tag_fits = t.1.tag_fits; length_fits = small })

frame_again : (frame : ℕ × List ℕ) (rest : List ℕ) → Fit frame → frame_at (text_of frame ++ rest) ≡ Ok (frame, rest)
unfolding frame_at
frame_again frame rest fits =
    let front : Front = record { len = length frame.1; tag = frame.0 } in
    let head : List ℕ = front_bytes (length frame.1) frame.0 in
    let after : List ℕ = (frame.1 ++ sha256 (head ++ frame.1)) ++ rest in
    let grouped : text_of frame ++ rest ≡ head ++ after =
    ap (λ (l : List ℕ). l ++ rest) (append_assoc head frame.1 (sha256 (head ++ frame.1)))
    ∙ append_assoc head (frame.1 ++ sha256 (head ++ frame.1)) rest in
    let read : front_at (head ++ after) ≡ Ok (front, after) =
    front_reader.again front after (record { len_fits = fits.length_fits; tag_fits = fits.tag_fits }) in
    let start : take 20 (head ++ after) ≡ head = take_at head after 20 (length-front (length frame.1) frame.0) in
    ap frame_at grouped ∙ rw (read, start, sealed_again head frame.1 rest) refl

pub frame_reader : IsReader frame_at text_of Fit
frame_reader = record { takes = frame_takes; again = frame_again }

-- an opened frame is a frame
pub opened_is_frame : (bytes : List ℕ) (tag : ℕ) (body : List ℕ) → IsBytes bytes → opened bytes ≡ Ok (tag, body)
    → FrameFits tag body × (bytes ≡ frame_bytes tag body)
opened_is_frame bytes tag body fits e = whole_takes frame_at text_of Fit frame_reader bytes (tag, body) fits e

-- a frame is opened
pub frame_is_opened : (tag : ℕ) (body : List ℕ) → FrameFits tag body
    → opened (frame_bytes tag body) ≡ Ok (tag, body)
frame_is_opened tag body fits = whole_again frame_at text_of Fit frame_reader (tag, body) fits

-- ---- in blocks

abbrev its_tag : ℕ × List ℕ → Result ℕ WireFault
its_tag frame = Ok frame.0

abbrev a_pair : ℕ × List ℕ → Result (ℕ × List ℕ) WireFault
a_pair frame = Ok frame

abbrev a_tag : ℕ → Result ℕ WireFault
a_tag tag = Ok tag

tag_is : (m n : ℕ) → a_tag m ≡ a_tag n → m ≡ n
tag_is m n e = cc

-- the body of an opened frame is the body of what was fed
pub opened_body : (fed : List ℕ) (tag : ℕ) (body : List ℕ) → opened fed ≡ Ok (tag, body) → body_so_far fed ≡ body
unfolding body_so_far
opened_body fed tag body e =
    let a = bind_ok (frame_at fed) (λ x. cond (eqb (length x.1) 0) (Ok x.0) (Err Trailing)) (tag, body) e in
    let g = guard_ended (eqb (length a.0.1) 0) Trailing a.0.0 (tag, body) a.2 in
    let p = frame_parts fed a.0 a.1 in
    ap body_after p.front_is ∙ sealed_body (take 20 fed) p.front.0.len p.front.1 p.body p.body_is
    ∙ ap (λ (y : (ℕ × List ℕ) × List ℕ). y.0.1) p.frame_is ∙ ap (λ (y : ℕ × List ℕ). y.1) g.1

-- a tag that was read is that of a frame, whose body was fed
tag_opened : (read : Result (ℕ × List ℕ) WireFault) (tag : ℕ) → (read >>= its_tag) ≡ Ok tag
    → (body : List ℕ) × (read ≡ Ok (tag, body))
tag_opened (Ok frame) tag e = (frame.1, ap (λ (n : ℕ). a_pair (n, frame.1)) (tag_is frame.0 tag e))
tag_opened (Err fault) tag e = absurd cc

pub tag_read : (fed : List ℕ) (tag : ℕ) → IsBytes fed → tag_of fed ≡ Ok tag
    → FrameFits tag (body_so_far fed) × (fed ≡ frame_bytes tag (body_so_far fed))
tag_read fed tag fits e =
    let o = tag_opened (opened fed) tag e in
    let body : o.0 ≡ body_so_far fed = sym (opened_body fed tag o.0 o.1) in
    subst (λ (l : List ℕ). FrameFits tag l × (fed ≡ frame_bytes tag l)) body (opened_is_frame fed tag o.0 fits o.1)

-- a frame that is fed returns its tag and its body
pub frame_read : (tag : ℕ) (body : List ℕ) → FrameFits tag body
    → (tag_of (frame_bytes tag body) ≡ Ok tag) × (body_so_far (frame_bytes tag body) ≡ body)
frame_read tag body fits =
    let e = frame_is_opened tag body fits in
    (ap (λ (r : Result (ℕ × List ℕ) WireFault). r >>= its_tag) e, opened_body (frame_bytes tag body) tag body e)

abbrev sealed_frame : List ℕ → Front × List ℕ → Result ((ℕ × List ℕ) × List ℕ) WireFault
sealed_frame start front = sealed_at start front.0.len front.1 >>= framed front.0

rest_then : (read : Result (Front × List ℕ) WireFault) (rest start : List ℕ)
    → ((read >>= with_rest rest) >>= sealed_frame start) ≡ (read >>= λ front. sealed_frame start (front.0, rest))
rest_then (Ok front) rest start = refl
rest_then (Err fault) rest start = refl

frame_cut : (fed : List ℕ)
    → frame_at fed ≡ (front_at (take 20 fed) >>= λ front. sealed_frame (take 20 fed) (front.0, drop 20 fed))
unfolding frame_at
frame_cut fed =
    ap (λ (r : Result (Front × List ℕ) WireFault). r >>= sealed_frame (take 20 fed)) (front_cut fed)
    ∙ rest_then (front_at (take 20 fed)) (drop 20 fed) (take 20 fed)

abbrev tag_in : Result ((ℕ × List ℕ) × List ℕ) WireFault → Result ℕ WireFault
tag_in read = whole read >>= λ frame. Ok frame.0

abbrev ended : Bool → ℕ × List ℕ → Result (ℕ × List ℕ) WireFault
ended v frame = cond v (Ok frame) (Err Trailing)

same_tag : (v : Bool) (tag : ℕ) (body : List ℕ)
    → (cond v (Ok body) (Err Trailing) >>= λ b. Ok tag) ≡ (ended v (tag, body) >>= its_tag)
same_tag true tag body = refl
same_tag false tag body = refl

tag_framed : (read : Result (List ℕ × List ℕ) WireFault) (front : Front)
    → (whole read >>= λ body. Ok front.tag) ≡ tag_in (read >>= framed front)
tag_framed (Ok body) front = same_tag (eqb (length body.1) 0) front.tag body.0
tag_framed (Err fault) front = refl

-- the tag, from the front and the bytes after it
pub tag_found : (fed : List ℕ) (front : Front × List ℕ) → front_at (take 20 fed) ≡ Ok front
    → tag_after front.0.tag (take 20 fed) front.0.len (drop 20 fed) ≡ tag_of fed
tag_found fed front e =
    tag_framed (sealed_at (take 20 fed) front.0.len (drop 20 fed)) front.0
    ∙ ap (λ (r : Result (Front × List ℕ) WireFault).
    tag_in (r >>= λ f. sealed_frame (take 20 fed) (f.0, drop 20 fed))) (sym e)
    ∙ ap tag_in (sym (frame_cut fed))

-- the fault of the front
pub tag_fault : (fed : List ℕ) (fault : WireFault) → front_at (take 20 fed) ≡ Err fault → Err fault ≡ tag_of fed
tag_fault fed fault e =
    ap (λ (r : Result (Front × List ℕ) WireFault).
    tag_in (r >>= λ f. sealed_frame (take 20 fed) (f.0, drop 20 fed))) (sym e)
    ∙ ap tag_in (sym (frame_cut fed))

abbrev pub a_fault : WireFault → Result ℕ WireFault
a_fault fault = Err fault

pub failed : (x y : WireFault) → x ≡ y → a_fault x ≡ a_fault y
failed x y e = ap a_fault e

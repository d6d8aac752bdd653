-- A front is read from its twenty bytes alone: the bytes after it do not count, and fewer are no front.
use Rattle.std.proofs.Common.{◌≡◌, ℕ, ◌<◌, ◌≤◌, Bool, true, false, cond, eqb, ltb, List, [], ◌++◌, length, take, drop}
use Rattle.std.proofs.Common.{Result, Ok, Err, refl, sym, ap, subst, ◌∙◌, arith, inl, inr, w32, w64, ltb-false, le-ltb}
use Rattle.std.proofs.Common.{eqb-true, take-append-drop, take_all, append-nil, length-take, length-drop, length-append}
use Rattle.std.specs.Int.{Width, byte_len, from_be_bytes, to_be_bytes}
use Rattle.std.proofs.lemmas.{Bool.cases_lt, List.take-append-le, List.drop-append-le, List.nil_from_length}
use Rattle.hlc_wire.specs.declared.fault.WireFault.{WireFault, TheVariants.Short, TheVariants.Version}
use Rattle.hlc_wire.specs.Reading.{◌>>=◌, number_at}
use Rattle.hlc_wire.proofs.FieldLemmas.{bind_ok, guard_ok, guard_ended, ok_is, IsReader, IsBytes, Takes, Takes-then}
use Rattle.hlc_wire.proofs.FieldLemmas.{wide64, four, eight}
use Rattle.hlc_frame.specs.{declared.front.Front.Front, Frame.front_bytes, Opening.front_at}

-- a number, if there are enough bytes
number_long : (w : Width) (a b : List ℕ) → byte_len w ≤ length a
    → number_at w (a ++ b) ≡ Ok (from_be_bytes w (take (byte_len w) a), drop (byte_len w) a ++ b)
number_long w a b le =
    let long : ltb (length (a ++ b)) (byte_len w) ≡ false = le-ltb _ _ (omega (arith, length-append a b)) in
    rw (long, take-append-le (byte_len w) a b le, drop-append-le (byte_len w) a b le) refl

-- the content of twenty bytes, before a rest
abbrev a_front : ℕ → ℕ → Front
a_front len tag = record { len = len; tag = tag }

abbrev front_in : List ℕ → Front
front_in a = a_front (from_be_bytes w64 (take 8 (drop 4 a))) (from_be_bytes w64 (take 8 (drop 8 (drop 4 a))))

abbrev found_if : Bool → Front → List ℕ → Result (Front × List ℕ) WireFault
found_if v front rest = cond v (Ok (front, rest)) (Err Version)

-- the numbers after the version
abbrev numbers_at : List ℕ → Result (Front × List ℕ) WireFault
numbers_at bytes = number_at w64 bytes >>= λ len. number_at w64 len.1 >>= λ tag. Ok (a_front len.0 tag.0, tag.1)

abbrev after_version : ℕ × List ℕ → Result (List ℕ) WireFault
after_version version = cond (eqb version.0 1) (Ok version.1) (Err Version)

abbrev versioned : Bool → List ℕ → Result (List ℕ) WireFault
versioned v bytes = cond v (Ok bytes) (Err Version)

front_long : (a b : List ℕ) → 20 ≤ length a
    → front_at (a ++ b)
    ≡ found_if (eqb (from_be_bytes w32 (take 4 a)) 1) (front_in a) (drop 8 (drop 8 (drop 4 a)) ++ b)
unfolding front_at
front_long a b le =
    let second : 8 ≤ length (drop 4 a) = omega (arith, length-drop 4 a) in
    let third : 8 ≤ length (drop 8 (drop 4 a)) = omega (arith, length-drop 4 a, length-drop 8 (drop 4 a)) in
    rw (number_long w32 a b (omega arith)) (
    elim (eqb (from_be_bytes w32 (take 4 a)) 1) as (λ (v : Bool). (versioned v (drop 4 a ++ b) >>= numbers_at)
    ≡ found_if v (front_in a) (drop 8 (drop 8 (drop 4 a)) ++ b)) [
      | true ↦ rw (number_long w64 (drop 4 a) b second, number_long w64 (drop 8 (drop 4 a)) b third) refl
      | false ↦ refl
    ]
    )

-- what a number that was read implies for the bytes
number_ok : (w : Width) (bytes : List ℕ) (x : ℕ × List ℕ) → number_at w bytes ≡ Ok x
    → (byte_len w ≤ length bytes) × (drop (byte_len w) bytes ≡ x.1)
number_ok w bytes x e =
    let g = guard_ok (ltb (length bytes) (byte_len w)) Short
    (from_be_bytes w (take (byte_len w) bytes), drop (byte_len w) bytes) x e in
    (ltb-false _ _ g.0, ap (λ (p : ℕ × List ℕ). p.1) g.1)

-- the parts of a front that was read
record Parts (bytes : List ℕ) (found : Front × List ℕ) : Type 0 where
  version : ℕ × List ℕ
  len : ℕ × List ℕ
  tag : ℕ × List ℕ
  version_is : number_at w32 bytes ≡ Ok version
  one : version.0 ≡ 1
  len_is : number_at w64 version.1 ≡ Ok len
  tag_is : number_at w64 len.1 ≡ Ok tag
  found_is : (a_front len.0 tag.0, tag.1) ≡ found

front_parts : (bytes : List ℕ) (found : Front × List ℕ) → front_at bytes ≡ Ok found → Parts bytes found
unfolding front_at
front_parts bytes found e =
    let a = bind_ok (number_at w32 bytes) (λ version. after_version version >>= numbers_at) found e in
    let b = bind_ok (after_version a.0) numbers_at found a.2 in
    let g = guard_ended (eqb a.0.0 1) Version a.0.1 b.0 b.1 in
    let numbers : numbers_at a.0.1 ≡ Ok found = ap numbers_at g.1 ∙ b.2 in
    let c = bind_ok (number_at w64 a.0.1) (λ len. number_at w64 len.1 >>= λ tag. Ok (a_front len.0 tag.0, tag.1))
    found numbers in
    let d = bind_ok (number_at w64 c.0.1) (λ tag. Ok (a_front c.0.0 tag.0, tag.1)) found c.2 in
    record {
      version = a.0;
      len = c.0;
      tag = d.0;
      version_is = a.1;
      one = eqb-true _ _ g.0;
      len_is = c.1;
      tag_is = d.1;
      found_is = ok_is (a_front c.0.0 d.0.0, d.0.1) found d.2;
    }

-- if there is a front, there are twenty bytes
pub front_ok : (bytes : List ℕ) (found : Front × List ℕ) → front_at bytes ≡ Ok found → 20 ≤ length bytes
front_ok bytes found e =
    let p = front_parts bytes found e in
    let a = number_ok w32 bytes p.version p.version_is in
    let b = number_ok w64 p.version.1 p.len p.len_is in
    let c = number_ok w64 p.len.1 p.tag p.tag_is in
    let x : length (drop 4 bytes) ≡ length p.version.1 = ap length a.1 in
    let y : length (drop 8 p.version.1) ≡ length p.len.1 = ap length b.1 in
    omega (arith, a.0, b.0, c.0, x, y, length-drop 4 bytes, length-drop 8 p.version.1)

-- the same front with another rest
abbrev pub with_rest : List ℕ → Front × List ℕ → Result (Front × List ℕ) WireFault
with_rest rest found = Ok (found.0, rest)

found_rest : (v : Bool) (front : Front) (m n rest : List ℕ) → m ≡ []
    → found_if v front (m ++ rest) ≡ (found_if v front n >>= with_rest rest)
found_rest true front m n rest e = ap (λ (l : List ℕ). found_if true front (l ++ rest)) e
found_rest false front m n rest e = refl

none_rest : (read : Result (Front × List ℕ) WireFault) (rest : List ℕ)
    → ((found : Front × List ℕ) → read ≡ Ok found → ⊥) → read ≡ (read >>= with_rest rest)
none_rest (Ok found) rest none = absurd (none found refl)
none_rest (Err fault) rest none = refl

-- reading some bytes is reading their first twenty
pub front_cut : (fed : List ℕ) → front_at fed ≡ (front_at (take 20 fed) >>= with_rest (drop 20 fed))
front_cut fed =
    elim (cases_lt (length fed) 20) [
      | inl lt ↦
          let whole : take 20 fed ≡ fed = take_all 20 fed (omega arith) in
          none_rest (front_at fed) (drop 20 fed) (λ found e. let le = front_ok fed found e in omega (arith, le))
          ∙ ap (λ (l : List ℕ). front_at l >>= with_rest (drop 20 fed)) (sym whole)
      | inr le ↦
          let a : List ℕ = take 20 fed in
          let twenty : length a ≡ 20 = omega (arith, length-take 20 fed) in
          let more : 20 ≤ length a = omega (arith, twenty) in
          let nothing : drop 8 (drop 8 (drop 4 a)) ≡ [] = nil_from_length _
          (omega (arith, twenty, length-drop 4 a, length-drop 8 (drop 4 a), length-drop 8 (drop 8 (drop 4 a)))) in
          ap front_at (sym (take-append-drop 20 fed)) ∙ front_long a (drop 20 fed) more
          ∙ found_rest _ (front_in a) (drop 8 (drop 8 (drop 4 a))) (drop 8 (drop 8 (drop 4 a)) ++ [])
          (drop 20 fed) nothing
          ∙ ap (λ (r : Result (Front × List ℕ) WireFault). r >>= with_rest (drop 20 fed))
          (sym (ap front_at (sym (append-nil a)) ∙ front_long a [] more))
    ]

-- ---- what is read has that encoding

pub record FrontFits (front : Front) : Type 0 where
  pub len_fits : front.len < 18446744073709551616
  pub tag_fits : front.tag < 18446744073709551616

abbrev pub front_text : Front → List ℕ
front_text front = front_bytes front.len front.tag

pub length-front : (len tag : ℕ) → length (front_bytes len tag) ≡ 20
unfolding front_bytes
length-front len tag = refl

front_takes : (bytes : List ℕ) (found : Front × List ℕ) → IsBytes bytes → front_at bytes ≡ Ok found
    → Takes bytes (front_text found.0) found.1 × FrontFits found.0
unfolding front_bytes
front_takes bytes found fits e =
    let p = front_parts bytes found e in
    let t = four.reads.takes bytes p.version fits p.version_is in
    let u = eight.reads.takes p.version.1 p.len t.0.rest_fits p.len_is in
    let v = eight.reads.takes p.len.1 p.tag u.0.rest_fits p.tag_is in
    let uv = Takes-then p.version.1 (to_be_bytes w64 p.len.0) p.len.1 (to_be_bytes w64 p.tag.0) p.tag.1 u.0 v.0 in
    let all' = Takes-then bytes (to_be_bytes w32 p.version.0) p.version.1
    (to_be_bytes w64 p.len.0 ++ to_be_bytes w64 p.tag.0) p.tag.1 t.0 uv in
    let first : Takes bytes (to_be_bytes w32 1 ++ (to_be_bytes w64 p.len.0 ++ to_be_bytes w64 p.tag.0)) p.tag.1 =
    subst (λ (n : ℕ). Takes bytes (to_be_bytes w32 n ++ (to_be_bytes w64 p.len.0 ++ to_be_bytes w64 p.tag.0)) p.tag.1)
    p.one all' in
    subst (λ (y : Front × List ℕ). Takes bytes (front_text y.0) y.1 × FrontFits y.0) p.found_is
    (first, record { len_fits = u.1; tag_fits = v.1 })

front_again : (front : Front) (rest : List ℕ) → FrontFits front → front_at (front_text front ++ rest) ≡ Ok (front, rest)
unfolding front_bytes
front_again front rest fits =
    let len : from_be_bytes w64 (to_be_bytes w64 front.len) ≡ front.len = wide64.again front.len fits.len_fits in
    let tag : from_be_bytes w64 (to_be_bytes w64 front.tag) ≡ front.tag = wide64.again front.tag fits.tag_fits in
    front_long (front_text front) rest (omega arith)
    ∙ ap (λ (n : ℕ). found_if true (a_front n (from_be_bytes w64 (to_be_bytes w64 front.tag))) rest) len
    ∙ ap (λ (n : ℕ). found_if true (a_front front.len n) rest) tag

pub front_reader : IsReader front_at front_text FrontFits
front_reader = record { takes = front_takes; again = front_again }

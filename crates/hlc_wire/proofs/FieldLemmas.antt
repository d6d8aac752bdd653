-- A field that is read is the field that was written, and what was written is read again. If more bytes follow, the
-- same is read, and each fault except Short stays the same.
use Rattle.std.proofs.Common.{◌≡◌, ◌⊎◌, ℕ, zero, suc, ◌+◌, ◌<◌, ◌≤◌, Bool, true, false, cond, eqb, ltb, List, [], ◌∷◌}
use Rattle.std.proofs.Common.{◌++◌, length, get_or, take, drop, Option, Some, None, Result, Ok, Err}
use Rattle.std.proofs.Common.{refl, sym, ap, subst, ◌∙◌, append_assoc, arith, inl, inr, get_or-take}
use Rattle.std.specs.Int.{Width, w16, w32, w64, byte_len, from_be_bytes, to_be_bytes}
use Rattle.std.proofs.lemmas.Bool.{cases_lt, ltb-false, le-ltb, eqb-true}
use Rattle.std.proofs.lemmas.List.{take_at, drop_at, take-append-drop, length-append, length-take, get_or-drop}
use Rattle.std.proofs.lemmas.List.{get_or_past, append-nil, nil_from_length, take-append-le, drop-append-le}
use Rattle.std.proofs.lemmas.Nat.{be_bytes_2, be_bytes_4, be_bytes_8}
use Rattle.std.proofs.lemmas.Nat.{from_be_bytes-to_be_bytes_2, from_be_bytes-to_be_bytes_4, from_be_bytes-to_be_bytes_8}
use Rattle.hlc_wire.specs.declared.fault.WireFault.{WireFault}
use Rattle.hlc_wire.specs.declared.fault.WireFault.TheVariants.{Short, EmptyKey, Flag, Trailing}
use Rattle.hlc_wire.specs.Spelling.{flag_bytes, key_bytes, value_bytes, KeyFits, ValueFits}
use Rattle.hlc_wire.specs.Reading.{◌>>=◌, number_at, bytes_at, flag_at, key_at, value_at, whole}

abbrev pub IsBytes : List ℕ → Type 0
IsBytes bytes = (i : ℕ) → get_or bytes i 0 < 256

IsBytes-drop : (n : ℕ) (bytes : List ℕ) → IsBytes bytes → IsBytes (drop n bytes)
IsBytes-drop n bytes h i = rw get_or-drop (h (n + i))

IsBytes-take : (n : ℕ) (bytes : List ℕ) → IsBytes bytes → IsBytes (take n bytes)
IsBytes-take n bytes h i =
    elim (cases_lt i n) [
      | inl lt ↦ rw (get_or-take n bytes i 0 lt) (h i)
      | inr le ↦ rw (get_or_past (take n bytes) i 0 (omega (arith, length-take n bytes))) (omega arith)
    ]

pub IsBytes-rest : (b : ℕ) (bytes : List ℕ) → IsBytes (b ∷ bytes) → IsBytes bytes
IsBytes-rest b bytes h i = h (suc i)

-- the value of a step that did not fail
pub bind_ok : {A B : Type 0} (r : Result A WireFault) (f : A → Result B WireFault) (y : B) → (r >>= f) ≡ Ok y
    → (x : A) × (r ≡ Ok x) × (f x ≡ Ok y)
bind_ok (Ok x) f y e = (x, refl, e)
bind_ok (Err d) f y e = absurd cc

-- a test that did not fail
pub guard_ok : {A : Type 0} (b : Bool) (d : WireFault) (x y : A) → cond b (Err d) (Ok x) ≡ Ok y → (b ≡ false) × (x ≡ y)
guard_ok true d x y e = absurd cc
guard_ok false d x y e = (refl, cc)

pub guard_ended : {A : Type 0} (b : Bool) (d : WireFault) (x y : A) → cond b (Ok x) (Err d) ≡ Ok y
    → (b ≡ true) × (x ≡ y)
guard_ended true d x y e = (refl, cc)
guard_ended false d x y e = absurd cc

abbrev pub done : {A : Type 0} → A → Result A WireFault
done x = Ok x

pub ok_is : {A : Type 0} (x y : A) → done x ≡ done y → x ≡ y
ok_is x y e = cc

-- the part that a reader took from the front
pub record Takes (bytes text rest : List ℕ) : Type 0 where
  pub parts : bytes ≡ text ++ rest
  pub rest_fits : IsBytes rest

pub Takes-then : (a x b y c : List ℕ) → Takes a x b → Takes b y c → Takes a (x ++ y) c
Takes-then a x b y c p q =
    record {
      parts = p.parts ∙ ap (λ (t : List ℕ). x ++ t) q.parts ∙ sym (append_assoc x y c);
      rest_fits = q.rest_fits;
    }

pub Takes-cons : (b : ℕ) (a x c : List ℕ) → Takes a x c → Takes (b ∷ a) (b ∷ x) c
Takes-cons b a x c p = record { parts = ap (λ (t : List ℕ). b ∷ t) p.parts; rest_fits = p.rest_fits }

-- a reader reads exactly the encodings, whatever follows
pub record IsReader {A : Type 0} (read : List ℕ → Result (A × List ℕ) WireFault) (spell : A → List ℕ)
    (Fits : A → Type 0) : Type 0 where
  pub takes : (bytes : List ℕ) (x : A × List ℕ) → IsBytes bytes → read bytes ≡ Ok x
      → Takes bytes (spell x.0) x.1 × Fits x.0
  pub again : (a : A) (rest : List ℕ) → Fits a → read (spell a ++ rest) ≡ Ok (a, rest)

-- all of the bytes
pub whole_takes : {A : Type 0} (read : List ℕ → Result (A × List ℕ) WireFault) (spell : A → List ℕ) (Fits : A → Type 0)
    → IsReader read spell Fits → (bytes : List ℕ) (a : A) → IsBytes bytes → whole (read bytes) ≡ Ok a
    → Fits a × (bytes ≡ spell a)
whole_takes read spell Fits is bytes a fits e =
    let b = bind_ok (read bytes) (λ x. cond (eqb (length x.1) 0) (Ok x.0) (Err Trailing)) a e in
    let g = guard_ended (eqb (length b.0.1) 0) Trailing b.0.0 a b.2 in
    let t = is.takes bytes b.0 fits b.1 in
    let nothing : b.0.1 ≡ [] = nil_from_length b.0.1 (eqb-true _ _ g.0) in
    let all' : bytes ≡ spell b.0.0 =
    t.0.parts ∙ ap (λ (r : List ℕ). spell b.0.0 ++ r) nothing ∙ append-nil (spell b.0.0) in
    subst (λ v. Fits v × (bytes ≡ spell v)) g.1 (t.1, all')

pub whole_again : {A : Type 0} (read : List ℕ → Result (A × List ℕ) WireFault) (spell : A → List ℕ) (Fits : A → Type 0)
    → IsReader read spell Fits → (a : A) → Fits a → whole (read (spell a)) ≡ Ok a
whole_again read spell Fits is a fits =
    let again : read (spell a) ≡ Ok (a, []) = ap read (sym (append-nil (spell a))) ∙ is.again a [] fits in
    rw again refl

-- ---- in pieces

pub record IsSteady {A : Type 0} (read : List ℕ → Result (A × List ℕ) WireFault) : Type 0 where
  pub more : (bytes after : List ℕ) (x : A × List ℕ) → read bytes ≡ Ok x
      → read (bytes ++ after) ≡ Ok (x.0, x.1 ++ after)
  pub wrong : (bytes after : List ℕ) (f : WireFault) → read bytes ≡ Err f → (f ≡ Short → ⊥)
      → read (bytes ++ after) ≡ Err f

-- a reader that read x from the front left `after` too
abbrev Leaves : {A : Type 0} → A × List ℕ → List ℕ → A × List ℕ → Type 0
Leaves {A = A} read after x = done {A = A × List ℕ} read ≡ done {A = A × List ℕ} (x.0, x.1 ++ after)

-- ---- the parts of a `do`

-- its end
pub steady_done : {A : Type 0} (a : A) → IsSteady (λ (rest : List ℕ). done {A = A × List ℕ} (a, rest))
steady_done {A = A} a = record {
  more = λ bytes after x e. subst (Leaves (a, bytes ++ after) after) (ok_is (a, bytes) x e) refl;
  wrong = λ bytes after f e not. absurd cc;
}

abbrev pub failed : {A : Type 0} → WireFault → Result A WireFault
failed f = Err f

bind_err : {A B : Type 0} (r : Result A WireFault) (next : A → Result B WireFault) (f : WireFault)
    → (r >>= next) ≡ Err f
    → (r ≡ Err f) ⊎ ((x : A) × (r ≡ Ok x) × (next x ≡ Err f))
bind_err (Ok x) next f e = inr (x, refl, e)
bind_err {A = A} (Err g) next f e = inl (let same : g ≡ f = cc in ap (failed {A = A}) same)

-- a field, and what is read after it
pub steady_then : {A B : Type 0} {read : List ℕ → Result (A × List ℕ) WireFault}
    (next : A × List ℕ → Result (B × List ℕ) WireFault) → IsSteady read
    → ((a : A) → IsSteady (λ (rest : List ℕ). next (a, rest))) → IsSteady (λ (bytes : List ℕ). read bytes >>= next)
steady_then {read = read} next first then = record {
  more = λ bytes after y e.
      let b = bind_ok (read bytes) next y e in
      ap (λ r. r >>= next) (first.more bytes after b.0 b.1) ∙ (then b.0.0).more b.0.1 after y b.2;
  wrong = λ bytes after f e not.
      elim (bind_err (read bytes) next f e) [
        | inl here ↦ ap (λ r. r >>= next) (first.wrong bytes after f here not)
        | inr b ↦ ap (λ r. r >>= next) (first.more bytes after b.0 b.1) ∙ (then b.0.0).wrong b.0.1 after f b.2 not
      ];
}

-- ---- fields

-- a field: its reader reads exactly the encodings, also in pieces
pub record IsField {A : Type 0} (read : List ℕ → Result (A × List ℕ) WireFault) (spell : A → List ℕ)
    (Fits : A → Type 0) : Type 0 where
  pub reads : IsReader read spell Fits
  pub steady : IsSteady read

-- fields one after another, of which a value is made
pub record IsPart {T B : Type 0} (make : T → B) (read : List ℕ → Result (B × List ℕ) WireFault) (spell : T → List ℕ)
    (Fits : T → Type 0) : Type 0 where
  pub takes : (bytes : List ℕ) (x : B × List ℕ) → IsBytes bytes → read bytes ≡ Ok x
      → (t : T) × (make t ≡ x.0) × Takes bytes (spell t) x.1 × Fits t
  pub again : (t : T) (rest : List ℕ) → Fits t → read (spell t ++ rest) ≡ Ok (make t, rest)
  pub steady : IsSteady read

-- a field alone
pub alone : {A : Type 0} {read : List ℕ → Result (A × List ℕ) WireFault} {spell : A → List ℕ} {Fits : A → Type 0}
    → IsField read spell Fits → IsPart (λ (a : A). a) read spell Fits
alone is = record {
  takes = λ bytes x fits e. let t = is.reads.takes bytes x fits e in (x.0, refl, t.0, t.1);
  again = λ a rest fits. is.reads.again a rest fits;
  steady = is.steady;
}

-- no field
pub nothing : {B : Type 0} (b : B)
    → IsPart (λ (t : Unit {0}). b) (λ (rest : List ℕ). done {A = B × List ℕ} (b, rest)) (λ t. []) (λ t. Unit {0})
nothing b = record {
  takes = λ bytes x fits e.
      let same = ok_is (b, bytes) x e in
      (tt, ap (λ y. y.0) same, record { parts = ap (λ y. y.1) same; rest_fits = rw (← same) fits }, tt);
  again = λ t rest fits. refl;
  steady = steady_done b;
}

-- the last field
pub last : {A B : Type 0} {read : List ℕ → Result (A × List ℕ) WireFault} {spell : A → List ℕ} {Fits : A → Type 0}
    (make : A → B) → IsField read spell Fits
    → IsPart make (λ (bytes : List ℕ). read bytes >>= λ x. done {A = B × List ℕ} (make x.0, x.1)) spell Fits
last {B = B} {read = read} {spell = spell} make is = record {
  takes = λ bytes x fits e.
      let a = bind_ok (read bytes) (λ y. done (make y.0, y.1)) x e in
      let t = is.reads.takes bytes a.0 fits a.1 in
      let same = ok_is (make a.0.0, a.0.1) x a.2 in
      (a.0.0, ap (λ y. y.0) same, subst (λ (y : B × List ℕ). Takes bytes (spell a.0.0) y.1) same t.0, t.1);
  again = λ a rest fits. rw (is.reads.again a rest fits) refl;
  steady = steady_then _ is.steady (λ a. steady_done (make a));
}

-- a field, and what follows it
pub field : {A B T : Type 0} {read : List ℕ → Result (A × List ℕ) WireFault} {spell : A → List ℕ} {Fits : A → Type 0}
    {make : A → T → B} {tail : T → List ℕ} {More : A → T → Type 0} (next : A × List ℕ → Result (B × List ℕ) WireFault)
    → IsField read spell Fits
    → ((a : A) → IsPart (make a) (λ (rest : List ℕ). next (a, rest)) tail (More a))
    → IsPart (λ (t : A × T). make t.0 t.1) (λ (bytes : List ℕ). read bytes >>= next)
    (λ (t : A × T). spell t.0 ++ tail t.1) (λ (t : A × T). Fits t.0 × More t.0 t.1)
field {read = read} {spell = spell} {tail = tail} next is then = record {
  takes = λ bytes x fits e.
      let a = bind_ok (read bytes) next x e in
      let t = is.reads.takes bytes a.0 fits a.1 in
      let u = (then a.0.0).takes a.0.1 x t.0.rest_fits a.2 in
      ((a.0.0, u.0), u.1, Takes-then bytes (spell a.0.0) a.0.1 (tail u.0) x.1 t.0 u.2, (t.1, u.3));
  again = λ t rest fits.
      rw (append_assoc (spell t.0) (tail t.1) rest, is.reads.again t.0 (tail t.1 ++ rest) fits.0)
      ((then t.0).again t.1 rest fits.1);
  steady = steady_then next is.steady (λ a. (then a).steady);
}

-- a value of fields one after another is a field
pub via : {T B : Type 0} {make : T → B} {read : List ℕ → Result (B × List ℕ) WireFault} {part : T → List ℕ}
    {Parts : T → Type 0} {spell : B → List ℕ} {Fits : B → Type 0} → IsPart make read part Parts
    → ((t : T) → Parts t → Fits (make t) × (spell (make t) ≡ part t))
    → ((b : B) → Fits b → (t : T) × Parts t × (make t ≡ b)) → IsField read spell Fits
via is of to = record {
  reads = record {
    takes = λ bytes x fits e.
        let a = is.takes bytes x fits e in
        let m = of a.0 a.3 in
        rw (← a.1) (rw m.1 a.2, m.0);
    again = λ b rest fits.
        let a = to b fits in
        rw (← a.2, (of a.0 a.1).1) (is.again a.0 rest a.1);
  };
  steady = is.steady;
}

-- ---- cases of the first byte

pub record IsCase {B : Type 0} (read : List ℕ → Result (B × List ℕ) WireFault) (spell : B → List ℕ)
    (Fits : B → Type 0) (b : ℕ) : Type 0 where
  pub takes : (bytes : List ℕ) (x : B × List ℕ) → IsBytes (b ∷ bytes) → read (b ∷ bytes) ≡ Ok x
      → Takes (b ∷ bytes) (spell x.0) x.1 × Fits x.0
  pub steady : IsSteady (λ (rest : List ℕ). read (b ∷ rest))

pub a_case : {T B : Type 0} {make : T → B} {read : List ℕ → Result (B × List ℕ) WireFault} {part : T → List ℕ}
    {Parts : T → Type 0} {spell : B → List ℕ} {Fits : B → Type 0} {b : ℕ}
    → IsPart make (λ (rest : List ℕ). read (b ∷ rest)) part Parts
    → ((t : T) → b < 256 → Parts t → Fits (make t) × (spell (make t) ≡ b ∷ part t)) → IsCase read spell Fits b
a_case {part = part} {b = b} is of = record {
  takes = λ bytes x fits e.
      let a = is.takes bytes x (IsBytes-rest b bytes fits) e in
      let m = of a.0 (fits 0) a.3 in
      rw (← a.1) (rw m.1 (Takes-cons b bytes (part a.0) x.1 a.2), m.0);
  steady = is.steady;
}

pub no_case : {B : Type 0} {read : List ℕ → Result (B × List ℕ) WireFault} {spell : B → List ℕ} {Fits : B → Type 0}
    {b : ℕ} (f : WireFault) → ((rest : List ℕ) → read (b ∷ rest) ≡ Err f) → IsCase read spell Fits b
no_case f wrong = record {
  takes = λ bytes x fits e. absurd (let no = wrong bytes in cc);
  steady = record {
    more = λ bytes after x e. absurd (let no = wrong bytes in cc);
    wrong = λ bytes after g e not. let no = wrong bytes in let nor = wrong (bytes ++ after) in cc;
  };
}

head_takes : {B : Type 0} (read : List ℕ → Result (B × List ℕ) WireFault) (spell : B → List ℕ) (Fits : B → Type 0)
    → read [] ≡ Err Short → ((b : ℕ) → IsCase read spell Fits b) → (bytes : List ℕ) (x : B × List ℕ) → IsBytes bytes
    → read bytes ≡ Ok x → Takes bytes (spell x.0) x.1 × Fits x.0
head_takes read spell Fits short each [] x fits e = absurd cc
head_takes read spell Fits short each (b ∷ bytes) x fits e = (each b).takes bytes x fits e

head_more : {A : Type 0} (read : List ℕ → Result (A × List ℕ) WireFault) → read [] ≡ Err Short
    → ((b : ℕ) → IsSteady (λ (rest : List ℕ). read (b ∷ rest))) → (bytes after : List ℕ) (x : A × List ℕ)
    → read bytes ≡ Ok x → read (bytes ++ after) ≡ Ok (x.0, x.1 ++ after)
head_more read short each [] after x e = absurd cc
head_more read short each (b ∷ bytes) after x e = (each b).more bytes after x e

head_wrong : {A : Type 0} (read : List ℕ → Result (A × List ℕ) WireFault) → read [] ≡ Err Short
    → ((b : ℕ) → IsSteady (λ (rest : List ℕ). read (b ∷ rest))) → (bytes after : List ℕ) (f : WireFault)
    → read bytes ≡ Err f → (f ≡ Short → ⊥) → read (bytes ++ after) ≡ Err f
head_wrong read short each [] after f e not = absurd (not cc)
head_wrong read short each (b ∷ bytes) after f e not = (each b).wrong bytes after f e not

-- a field that begins with a byte which says what follows
pub choice : {B : Type 0} {read : List ℕ → Result (B × List ℕ) WireFault} {spell : B → List ℕ} {Fits : B → Type 0}
    → read [] ≡ Err Short → ((b : ℕ) → IsCase read spell Fits b)
    → ((x : B) (rest : List ℕ) → Fits x → read (spell x ++ rest) ≡ Ok (x, rest)) → IsField read spell Fits
choice {read = read} {spell = spell} {Fits = Fits} short each again = record {
  reads = record { takes = head_takes read spell Fits short each; again = again };
  steady = record {
    more = head_more read short (λ b. (each b).steady);
    wrong = head_wrong read short (λ b. (each b).steady);
  };
}

-- ---- numbers

pub record IsWide (w : Width) (limit : ℕ) : Type 0 where
  pub len : (n : ℕ) → length (to_be_bytes w n) ≡ byte_len w
  pub back : (bytes : List ℕ) → length bytes ≡ byte_len w → IsBytes bytes
      → to_be_bytes w (from_be_bytes w bytes) ≡ bytes
  pub again : (n : ℕ) → n < limit → from_be_bytes w (to_be_bytes w n) ≡ n
  pub below : (bytes : List ℕ) → IsBytes bytes → from_be_bytes w bytes < limit

pub wide16 : IsWide w16 65536
wide16 = record {
  len = λ n. refl;
  back = λ bytes len fits. be_bytes_2 bytes _ len fits refl;
  again = λ n lt. from_be_bytes-to_be_bytes_2 n lt;
  below = λ bytes fits. omega (arith, fits 0, fits 1);
}

pub wide32 : IsWide w32 4294967296
wide32 = record {
  len = λ n. refl;
  back = λ bytes len fits. be_bytes_4 bytes _ len fits refl;
  again = λ n lt. from_be_bytes-to_be_bytes_4 n lt;
  below = λ bytes fits. omega (arith, fits 0, fits 1, fits 2, fits 3);
}

pub wide64 : IsWide w64 18446744073709551616
wide64 = record {
  len = λ n. refl;
  back = λ bytes len fits. be_bytes_8 bytes _ len fits refl;
  again = λ n lt. from_be_bytes-to_be_bytes_8 n lt;
  below = λ bytes fits. omega (arith, fits 0, fits 1, fits 2, fits 3, fits 4, fits 5, fits 6, fits 7);
}

number_takes : (w : Width) (limit : ℕ) (wide : IsWide w limit) (bytes : List ℕ) (x : ℕ × List ℕ) → IsBytes bytes
    → number_at w bytes ≡ Ok x → Takes bytes (to_be_bytes w x.0) x.1 × (x.0 < limit)
number_takes w limit wide bytes x fits e =
    let g = guard_ok (ltb (length bytes) (byte_len w)) Short
    (from_be_bytes w (take (byte_len w) bytes), drop (byte_len w) bytes) x e in
    let long : byte_len w ≤ length bytes = ltb-false _ _ g.0 in
    let n-is : from_be_bytes w (take (byte_len w) bytes) ≡ x.0 = ap (λ (p : ℕ × List ℕ). p.0) g.1 in
    let rest-is : drop (byte_len w) bytes ≡ x.1 = ap (λ (p : ℕ × List ℕ). p.1) g.1 in
    let front : to_be_bytes w x.0 ≡ take (byte_len w) bytes =
    rw (← n-is) (wide.back (take (byte_len w) bytes) (omega (arith, length-take (byte_len w) bytes))
    (IsBytes-take (byte_len w) bytes fits)) in (
      record {
        parts = rw (front, ← rest-is) (sym (take-append-drop (byte_len w) bytes));
        rest_fits = rw (← rest-is) (IsBytes-drop (byte_len w) bytes fits);
      },
      rw (← n-is) (wide.below (take (byte_len w) bytes) (IsBytes-take (byte_len w) bytes fits)),
    )

number_again : (w : Width) (limit : ℕ) (wide : IsWide w limit) (n : ℕ) (rest : List ℕ) → n < limit
    → number_at w (to_be_bytes w n ++ rest) ≡ Ok (n, rest)
number_again w limit wide n rest lt =
    let len = wide.len n in
    let long : ltb (length (to_be_bytes w n ++ rest)) (byte_len w) ≡ false =
    le-ltb _ _ (omega (arith, length-append (to_be_bytes w n) rest)) in
    let front = take_at (to_be_bytes w n) rest (byte_len w) len in
    rw (long, front, drop_at (to_be_bytes w n) rest (byte_len w) len, wide.again n lt) refl

pub number_reader : (w : Width) (limit : ℕ) → IsWide w limit → IsReader (number_at w) (to_be_bytes w) (λ n. n < limit)
number_reader w limit wide = record { takes = number_takes w limit wide; again = number_again w limit wide }

guard_err : {A : Type 0} (b : Bool) (d f : WireFault) (x : A) → cond b (Err d) (Ok x) ≡ Err f → f ≡ d
guard_err true d f x e = cc
guard_err false d f x e = absurd cc

-- this many bytes, seen by view
cut_steady : {A : Type 0} (n : ℕ) (view : List ℕ → A)
    → IsSteady (λ (bytes : List ℕ). cond (ltb (length bytes) n) (failed Short)
    (done {A = A × List ℕ} (view (take n bytes), drop n bytes)))
cut_steady {A = A} n view = record {
  more = λ bytes after x e.
      let g = guard_ok (ltb (length bytes) n) Short (view (take n bytes), drop n bytes) x e in
      let long : n ≤ length bytes = ltb-false _ _ g.0 in
      let longer : ltb (length (bytes ++ after)) n ≡ false = le-ltb _ _ (omega (arith, length-append bytes after)) in
      rw (longer, take-append-le n bytes after long, drop-append-le n bytes after long)
      (subst (Leaves (view (take n bytes), drop n bytes ++ after) after) g.1 refl);
  wrong = λ bytes after f e not.
      absurd (not (guard_err (ltb (length bytes) n) Short f (view (take n bytes), drop n bytes) e));
}

pub number_field : (w : Width) (limit : ℕ) → IsWide w limit → IsField (number_at w) (to_be_bytes w) (λ n. n < limit)
number_field w limit wide =
    record { reads = number_reader w limit wide; steady = cut_steady (byte_len w) (from_be_bytes w) }

abbrev pub two : IsField (number_at w16) (to_be_bytes w16) (λ n. n < 65536)
two = number_field w16 65536 wide16

abbrev pub four : IsField (number_at w32) (to_be_bytes w32) (λ n. n < 4294967296)
four = number_field w32 4294967296 wide32

abbrev pub eight : IsField (number_at w64) (to_be_bytes w64) (λ n. n < 18446744073709551616)
eight = number_field w64 18446744073709551616 wide64

-- ---- bytes

bytes_takes : (n : ℕ) (bytes : List ℕ) (x : List ℕ × List ℕ) → IsBytes bytes → bytes_at n bytes ≡ Ok x
    → Takes bytes x.0 x.1 × (length x.0 ≡ n)
bytes_takes n bytes x fits e =
    let g = guard_ok (ltb (length bytes) n) Short (take n bytes, drop n bytes) x e in
    let long : n ≤ length bytes = ltb-false _ _ g.0 in
    let len : length (take n bytes) ≡ n = omega (arith, length-take n bytes) in
    let made : Takes bytes (take n bytes) (drop n bytes) =
    record { parts = sym (take-append-drop n bytes); rest_fits = IsBytes-drop n bytes fits } in
    subst (λ (p : List ℕ × List ℕ). Takes bytes p.0 p.1 × (length p.0 ≡ n)) g.1 (made, len)

bytes_again : (text rest : List ℕ) → bytes_at (length text) (text ++ rest) ≡ Ok (text, rest)
bytes_again text rest =
    let long : ltb (length (text ++ rest)) (length text) ≡ false =
    le-ltb _ _ (omega (arith, length-append text rest)) in
    rw (long, take_at text rest (length text) refl, drop_at text rest (length text) refl) refl

pub bytes_reader : (n : ℕ) → IsReader (bytes_at n) (λ (text : List ℕ). text) (λ text. length text ≡ n)
bytes_reader n = record {
  takes = bytes_takes n;
  again = λ text rest len. subst (λ (k : ℕ). bytes_at k (text ++ rest) ≡ Ok (text, rest)) len (bytes_again text rest);
}

pub bytes_field : (n : ℕ) → IsField (bytes_at n) (λ (text : List ℕ). text) (λ text. length text ≡ n)
bytes_field n = record { reads = bytes_reader n; steady = cut_steady n (λ (bytes : List ℕ). bytes) }

-- ---- yes or no

flag_each : (b : ℕ) → IsCase flag_at flag_bytes (λ _. Unit {0}) b
unfolding flag_at
flag_each zero = a_case (nothing false) (λ t few f. (tt, refl))
flag_each (suc zero) = a_case (nothing true) (λ t few f. (tt, refl))
flag_each (suc (suc b)) = no_case Flag (λ rest. refl)

flag_again : (flag : Bool) (rest : List ℕ) → Unit {0} → flag_at (flag_bytes flag ++ rest) ≡ Ok (flag, rest)
unfolding flag_at
flag_again true rest h = refl
flag_again false rest h = refl

pub flag_field : IsField flag_at flag_bytes (λ _. Unit {0})
unfolding flag_at
flag_field = choice refl flag_each flag_again

-- ---- keys

key_each : (b : ℕ) → IsCase key_at key_bytes KeyFits b
unfolding key_at
key_each zero = no_case EmptyKey (λ rest. refl)
key_each (suc n) =
    a_case (alone (bytes_field (suc n))) (λ t few len. ((omega arith, omega arith), ap (λ k. k ∷ t) len))

key_again : (key rest : List ℕ) → KeyFits key → key_at (key_bytes key ++ rest) ≡ Ok (key, rest)
unfolding key_at
key_again [] rest h = absurd (let some = h.0 in omega (arith, some))
key_again (b ∷ key) rest h = bytes_again (b ∷ key) rest

pub key_field : IsField key_at key_bytes KeyFits
unfolding key_at
key_field = choice refl key_each key_again

-- ---- values

value_each : (b : ℕ) → IsCase value_at value_bytes ValueFits b
unfolding value_at
value_each zero = a_case (nothing None) (λ t few f. (tt, refl))
value_each (suc zero) =
    a_case (field _ two (λ n. last Some (bytes_field n)))
    (λ t few f. (omega (arith, f.0, f.1), ap (λ n. 1 ∷ (to_be_bytes w16 n ++ t.1)) f.1))
value_each (suc (suc b)) = no_case Flag (λ rest. refl)

value_again : (value : Option (List ℕ)) (rest : List ℕ) → ValueFits value
    → value_at (value_bytes value ++ rest) ≡ Ok (value, rest)
unfolding value_at
value_again None rest h = refl
value_again (Some value) rest h =
    ap (λ (bs : List ℕ). value_at (1 ∷ bs)) (append_assoc (to_be_bytes w16 (length value)) value rest)
    ∙ rw (number_again w16 65536 wide16 (length value) (value ++ rest) h, bytes_again value rest) refl

pub value_field : IsField value_at value_bytes ValueFits
unfolding value_at
value_field = choice refl value_each value_again

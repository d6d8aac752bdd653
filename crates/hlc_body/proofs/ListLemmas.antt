-- Lists are read one after the other, as a loop does, and read back.
use Rattle.std.proofs.Common.{◌≡◌, ℕ, zero, suc, ◌-◌, ◌+◌, ◌≤◌, ◌<◌, List, [], ◌∷◌, ◌++◌, length, Result, Ok, Err, refl}
use Rattle.std.proofs.Common.{sym, ap, ◌∙◌, append_assoc, arith, get_or, take, All, flat_map, append-nil}
use Rattle.std.specs.Int.{Width, to_be_bytes}
use Rattle.std.proofs.lemmas.{Grind.flat_map-append, List.take_more, List.nil_from_length, List.Concat.flat_map-cons}
use Rattle.std.proofs.lemmas.List.Elements.{All-nil, All-cons, All-head, All-tail}
use Rattle.hlc_wire.specs.declared.fault.{WireFault.WireFault, DecodeError.DecodeError}
use Rattle.hlc_wire.specs.Reading.{◌>>=◌, Fails}
use Rattle.hlc_wire.proofs.FieldLemmas.{IsField, IsWide, number_field, alone, nothing, last, field, via}
use Rattle.hlc_body.specs.{Spelling.list_bytes, Spelling.ListFits, Reading.times_at, Reading.list_at}
use Rattle.hlc_wire.specs.declared.fault.DecodeError.TheVariants as errors

-- what was read before, and what is still to be read
abbrev pub with_front : {A : Type 0} → List A → Result (List A × List ℕ) WireFault → Result (List A × List ℕ) WireFault
with_front front read = read >>= λ x. Ok (front ++ x.0, x.1)

regroup : {A : Type 0} (front : List A) (a : A) (read : Result (List A × List ℕ) WireFault)
    → with_front front (read >>= λ x. Ok (a ∷ x.0, x.1)) ≡ with_front (front ++ a ∷ []) read
regroup front a (Ok x) = ap (λ xs. Ok (xs, x.1)) (sym (append_assoc front (a ∷ []) x.0))
regroup front a (Err f) = refl

pub goes_on : {A : Type 0} (read : List ℕ → Result (A × List ℕ) WireFault) (front : List A) (count i : ℕ)
    (bytes : List ℕ) (a : A) (after : List ℕ) (total : Result (List A × List ℕ) WireFault) → i < count
    → read bytes ≡ Ok (a, after) → with_front front (times_at read (count - i) bytes) ≡ total
    → with_front (front ++ a ∷ []) (times_at read (count - (i + 1)) after) ≡ total
unfolding times_at
goes_on read front count i bytes a after total lt h so_far =
    let k : count - i ≡ suc (count - (i + 1)) = omega arith in
    let one : with_front front (times_at read (count - i) bytes)
    ≡ with_front (front ++ a ∷ []) (times_at read (count - (i + 1)) after) =
    rw (k, h) (regroup front a (times_at read (count - (i + 1)) after)) in
    sym one ∙ so_far

pub ends : {A : Type 0} (read : List ℕ → Result (A × List ℕ) WireFault) (e : DecodeError) (front : List A)
    (count i : ℕ) (bytes : List ℕ) (total : Result (List A × List ℕ) WireFault) → i < count → Fails e (read bytes)
    → with_front front (times_at read (count - i) bytes) ≡ total → Fails e total
unfolding times_at
ends read errors.NoMemory front count i bytes total lt h so_far = tt
ends read (errors.Fault f) front count i bytes total lt h so_far =
    let k : count - i ≡ suc (count - (i + 1)) = omega arith in
    let one : with_front front (times_at read (count - i) bytes) ≡ Err f = rw (k, h) refl in
    sym so_far ∙ one

pub is_done : {A : Type 0} (read : List ℕ → Result (A × List ℕ) WireFault) (front : List A) (count i : ℕ)
    (bytes : List ℕ) (total : Result (List A × List ℕ) WireFault) → count ≤ i
    → with_front front (times_at read (count - i) bytes) ≡ total → total ≡ Ok (front, bytes)
unfolding times_at
is_done read front count i bytes total le so_far =
    let k : count - i ≡ 0 = omega arith in
    let one : with_front front (times_at read (count - i) bytes) ≡ Ok (front, bytes) =
    rw k (ap (λ xs. Ok (xs, bytes)) (append-nil front)) in
    sym so_far ∙ one

split : {A : Type 0} (Fits : A → Type 0) (n : ℕ) (xs : List A) → (length xs ≡ suc n) × All Fits xs
    → (t : A × List A) × (Fits t.0 × ((length t.1 ≡ n) × All Fits t.1)) × (t.0 ∷ t.1 ≡ xs)
split Fits n [] f = absurd (let no = f.0 in cc)
split Fits n (x ∷ xs) f =
    ((x, xs), (All-head Fits x xs f.1, (let e = f.0 in omega arith, All-tail Fits x xs f.1)), refl)

pub times_field : {A : Type 0} {read : List ℕ → Result (A × List ℕ) WireFault} {spell : A → List ℕ}
    {Fits : A → Type 0} → IsField read spell Fits → (n : ℕ)
    → IsField (times_at read n) (flat_map spell) (λ xs. (length xs ≡ n) × All Fits xs)
unfolding times_at
times_field {Fits = Fits} is zero =
    via (nothing []) (λ t f. ((refl, All-nil Fits), refl)) (λ xs f. (tt, tt, sym (nil_from_length xs f.0)))
times_field {spell = spell} {Fits = Fits} is (suc n) =
    via (field _ is (λ first. last (λ others. first ∷ others) (times_field is n)))
    (λ t f. ((ap suc f.1.0, All-cons Fits t.0 t.1 f.0 f.1.1), flat_map-cons spell t.0 t.1)) (split Fits n)

pub list_field : {A : Type 0} (w : Width) (limit : ℕ) → IsWide w limit
    → {read : List ℕ → Result (A × List ℕ) WireFault} {spell : A → List ℕ} {Fits : A → Type 0}
    → IsField read spell Fits → IsField (list_at w read) (list_bytes w spell) (ListFits limit Fits)
unfolding list_at
list_field w limit wide {spell = spell} is =
    via (field _ (number_field w limit wide) (λ n. alone (times_field is n)))
    (λ t f. ((rw f.1.0 f.0, f.1.1), ap (λ n. to_be_bytes w n ++ flat_map spell t.1) f.1.0))
    (λ xs f. ((length xs, xs), (f.0, (refl, f.1)), refl))

-- one more is written
pub list_on : {A : Type 0} (spell : A → List ℕ) (xs : List A) (i : ℕ) (x : A) (old size now new : List ℕ)
    → i < length xs → x ≡ get_or xs i x → now ≡ old ++ (size ++ flat_map spell (take i xs)) → new ≡ now ++ spell x
    → new ≡ old ++ (size ++ flat_map spell (take (i + 1) xs))
list_on spell xs i x old size now new lt is returned step =
    let so_far : List ℕ = flat_map spell (take i xs) in
    let more : so_far ++ spell x ≡ flat_map spell (take (i + 1) xs) =
    ap (λ t. so_far ++ t) (sym (append-nil (spell x))) ∙ sym (flat_map-append spell (take i xs) (x ∷ []))
    ∙ ap (flat_map spell) (sym (take_more xs i x lt ∙ ap (λ y. take i xs ++ y ∷ []) (sym is))) in
    step ∙ ap (λ t. t ++ spell x) returned ∙ append_assoc old (size ++ so_far) (spell x)
    ∙ ap (λ t. old ++ t) (append_assoc size so_far (spell x) ∙ ap (λ t. size ++ t) more)

-- A batch that is read is the batch that was written, and what was written is read again.
use Rattle.std.proofs.Common.{◌≡◌, ℕ, zero, suc, ◌≤◌, ◌*◌, ◌-◌, List, [], ◌∷◌, ◌++◌, length, Some, None, Ok, Err}
use Rattle.std.proofs.Common.{Result, refl, sym, ap, ◌∙◌, arith, length-append, rules, ltb, take, drop}
use Rattle.std.proofs.lemmas.{Grind.common_steps, List.nil_from_length}
use Rattle.std.specs.{Int.w16, Int.to_be_bytes, Int.from_be_bytes, Prelude.Option}
use Rattle.hlc_rows.specs.{Limits.write_refusal, declared.write.Write.Write}
use Rattle.hlc_rows.specs.Writes.{writes_refusal, batch_refusal}
use Rattle.hlc_rows.specs.Spelled.{a_write, value_of, key_in, value_in, long_in, writes_in}
use Rattle.hlc_rows.proofs.SpelledLemmas.{front}
use Rattle.hlc_rows.proofs.WritesLemmas.{first-none, good}
use Rattle.hlc_wire.specs.declared.fault.WireFault.{TheVariants.Short, WireFault}
use Rattle.hlc_wire.specs.Spelling.{key_bytes, value_bytes, write_bytes, writes_bytes, batch_bytes, KeyFits, ValueFits}
use Rattle.hlc_wire.specs.Spelling.{WritesFit, BatchFits}
use Rattle.hlc_wire.specs.Reading.{◌>>=◌, Reads, number_at, bytes_at, key_at, value_at, write_at, writes_at, batch_at}
use Rattle.hlc_wire.proofs.FieldLemmas.{guard_ok, bind_ok, ok_is, IsField, alone, nothing, last, field, via, IsCase}
use Rattle.hlc_wire.proofs.FieldLemmas.{a_case, choice, key_field, value_field}

abbrev WriteFits : Write → Type 0
WriteFits write = KeyFits write.key × ValueFits write.value

pub write_field : IsField write_at write_bytes WriteFits
write_field =
    via (field _ key_field (λ key. last (a_write key) value_field)) (λ t f. (f, refl))
    (λ w f. ((w.key, w.value), f, refl))

two_parts : (count : ℕ) (writes : List Write) → (length writes ≡ suc count) × WritesFit writes
    → (t : Write × List Write) × (WriteFits t.0 × ((length t.1 ≡ count) × WritesFit t.1)) × (t.0 ∷ t.1 ≡ writes)
two_parts count [] f = absurd (omega (arith, f.0))
two_parts count (w ∷ ws) f = ((w, ws), (f.1.0, (omega (arith, f.0), f.1.1)), refl)

writes_field : (count : ℕ) → IsField (writes_at count) writes_bytes (λ ws. (length ws ≡ count) × WritesFit ws)
unfolding writes_at
writes_field zero = via (nothing []) (λ t f. ((refl, tt), refl)) (λ ws f. (tt, tt, sym (nil_from_length ws f.0)))
writes_field (suc count) =
    via (field _ write_field (λ w. last (λ ws. w ∷ ws) (writes_field count)))
    (λ t f. ((ap suc f.1.0, (f.0, f.1.1)), refl)) (two_parts count)

batch_each : (b : ℕ) → IsCase batch_at batch_bytes BatchFits b
unfolding batch_at
batch_each b =
    a_case (alone (writes_field (suc b)))
    (λ t few f.
    let less : length t - 1 ≡ b = omega (arith, f.0) in
    ((omega (arith, f.0), omega (arith, f.0), f.1), ap (λ (n : ℕ). n ∷ writes_bytes t) less))

batch_again : (writes : List Write) (rest : List ℕ) → BatchFits writes
    → batch_at (batch_bytes writes ++ rest) ≡ Ok (writes, rest)
unfolding batch_at
batch_again [] rest h = absurd (omega (arith, h.0))
batch_again (write ∷ writes) rest h =
    let less : suc (length writes) - 1 ≡ length writes = omega arith in
    rw less ((writes_field (length (write ∷ writes))).reads.again (write ∷ writes) rest (refl, h.2))

pub batch_field : IsField batch_at batch_bytes BatchFits
unfolding batch_at
batch_field = choice refl batch_each batch_again

-- ---- the number of bytes

write_length : (key : List ℕ) (value : Option (List ℕ)) → KeyFits key → ValueFits value
    → length (key_bytes key ++ value_bytes value) ≤ 65794
write_length key None k v = omega (arith, k.1, length-append (key_bytes key) (value_bytes None))
write_length key (Some value) k v =
    omega (
      arith,
      k.1,
      v,
      length-append (key_bytes key) (value_bytes (Some value)),
      length-append (to_be_bytes w16 (length value)) value,
    )

pub writes_length : (writes : List Write) → WritesFit writes → length (writes_bytes writes) ≤ 65794 * length writes
writes_length [] fits = omega arith
writes_length (write ∷ writes) fits =
    omega (
      arith,
      write_length write.key write.value fits.0.0 fits.0.1,
      writes_length writes fits.1,
      length-append (write_bytes write) (writes_bytes writes),
    )

-- ---- reading in steps

key_is : (bytes : List ℕ) (x : List ℕ × List ℕ) → key_at bytes ≡ Ok x → key_in bytes ≡ x
unfolding key_at key_in
key_is [] x read = absurd cc
key_is (zero ∷ rest) x read = absurd cc
key_is (suc n ∷ rest) x read =
    (guard_ok (ltb (length rest) (suc n)) Short (take (suc n) rest, drop (suc n) rest) x read).1

abbrev some_value : List ℕ × List ℕ → Option (List ℕ) × List ℕ
some_value cut = (Some cut.0, cut.1)

value_is : (bytes : List ℕ) (x : Option (List ℕ) × List ℕ) → value_at bytes ≡ Ok x → value_in bytes ≡ x
unfolding value_at value_in long_in
value_is [] x read = absurd cc
value_is (zero ∷ rest) x read = ok_is (None, rest) x read
value_is (suc zero ∷ []) x read = absurd cc
value_is (suc zero ∷ high ∷ []) x read = absurd cc
value_is (suc zero ∷ high ∷ low ∷ rest) x read =
    let a = bind_ok (number_at w16 (high ∷ low ∷ rest))
    (λ n. bytes_at n.0 n.1 >>= λ value. Ok (some_value value)) x read in
    let c = guard_ok (ltb (length (high ∷ low ∷ rest)) 2) Short (from_be_bytes w16 (high ∷ low ∷ []), rest) a.0 a.1 in
    let b = bind_ok (bytes_at a.0.0 a.0.1) (λ value. Ok (some_value value)) x a.2 in
    let g = guard_ok (ltb (length a.0.1) a.0.0) Short (take a.0.0 a.0.1, drop a.0.0 a.0.1) b.0 b.1 in
    ap (λ (n : ℕ × List ℕ). value_of n.0 n.1) c.1 ∙ ap some_value g.1 ∙ ok_is (some_value b.0) x b.2
value_is (suc (suc b) ∷ rest) x read = absurd cc

-- a write is read, and then the others
writes_step : (count : ℕ) (bytes key after : List ℕ) (value : Option (List ℕ)) (rest : List ℕ) → (count ≡ 0 → ⊥)
    → key_at bytes ≡ Ok (key, after) → value_at after ≡ Ok (value, rest)
    → writes_at count bytes ≡ (writes_at (count - 1) rest >>= λ ws. Ok (a_write key value ∷ ws.0, ws.1))
unfolding writes_at
writes_step zero bytes key after value rest some at_key at_value = absurd (some refl)
writes_step (suc count) bytes key after value rest some at_key at_value =
    let less : suc count - 1 ≡ count = omega arith in
    rw (at_key, at_value, less) refl

pub writes_zero : (count : ℕ) (bytes : List ℕ) → count ≡ 0 → writes_at count bytes ≡ Ok (writes_in count bytes, bytes)
unfolding writes_at writes_in
writes_zero zero bytes none = refl
writes_zero (suc count) bytes none = absurd cc

reads_more : {X : Type 0} (view : X → List ℕ) (write : Write) (writes : List Write) (result : Result X WireFault)
    (read : Result (List Write × List ℕ) WireFault)
    → Reads {Y = List Write × List ℕ} (λ x. (writes, view x)) result read
    → Reads {Y = List Write × List ℕ} (λ x. (write ∷ writes, view x)) result (read >>= λ ws. Ok (write ∷ ws.0, ws.1))
reads_more view write writes (Ok x) read is = rw is refl
reads_more view write writes (Err fault) read is = rw is refl

pub writes_more : {X : Type 0} (view : X → List ℕ) (count : ℕ) (bytes key after : List ℕ) (value : Option (List ℕ))
    (rest : List ℕ) (result : Result X WireFault) → (count ≡ 0 → ⊥)
    → key_at bytes ≡ Ok (key, after) → value_at after ≡ Ok (value, rest)
    → Reads {Y = List Write × List ℕ} (λ x. (writes_in (count - 1) rest, view x)) result (writes_at (count - 1) rest)
    → Reads {Y = List Write × List ℕ} (λ x. (writes_in count bytes, view x)) result (writes_at count bytes)
writes_more view count bytes key after value rest result some at_key at_value is =
    rw (
      writes_step count bytes key after value rest some at_key at_value,
      front count bytes key after value rest some (sym (key_is bytes (key, after) at_key))
          (sym (value_is after (value, rest) at_value)),
    ) (reads_more view (a_write key value) (writes_in (count - 1) rest) result (writes_at (count - 1) rest) is)

-- ---- bodies that are not refused have an encoding

pub write_fits : (key : List ℕ) (value : Option (List ℕ)) → write_refusal key value ≡ None
    → KeyFits key × ValueFits value
write_fits key None h = search (rules, common_steps)
write_fits key (Some bytes) h = search (rules, common_steps)

writes_fit : (writes : List Write) → writes_refusal writes ≡ None → WritesFit writes
writes_fit [] h = tt
writes_fit (write ∷ writes) h =
    let both = first-none (write_refusal write.key write.value) (writes_refusal writes) h in
    (write_fits write.key write.value both.0, writes_fit writes both.1)

pub batch_fits : (writes : List Write) → batch_refusal writes ≡ None → BatchFits writes
batch_fits writes h =
    let are = good writes h in
    let some = are.some in
    let few = are.few in
    (omega (arith, some), omega (arith, few), writes_fit writes are.none)

-- After a block the reader has read the bytes before it and the block. At the end its result is that of reading all of
-- them.
use Rattle.std.proofs.Common.{◌≡◌, ℕ, ◌-◌, ◌<◌, ◌≤◌, Bool, true, false, cond, eqb, ltb, not, List, ◌++◌, length, take}
use Rattle.std.proofs.Common.{drop, Result, Ok, Err, refl, sym, ap, subst, ◌∙◌, arith, append_assoc, inl, inr}
use Rattle.std.{specs.Prelude.bytes_eq, proofs.lemmas.List.length-append, proofs.lemmas.List.length-take}
use Rattle.std.proofs.lemmas.Bool.{cases_lt, lt-ltb, le-ltb, ltb-true, ltb-false, eq-eqb, ne_eqb}
use Rattle.sha2.specs.{Sha256.sha256, Hashers.Holds256}
use Rattle.hlc_wire.specs.{declared.fault.WireFault.WireFault, Reading.◌>>=◌, Reading.whole}
use Rattle.hlc_wire.specs.declared.fault.WireFault.TheVariants.{Short, Damaged, Trailing}
use Rattle.hlc_frame.specs.{declared.rest.RestReader.RestReader, Opening.sealed_at}
use Rattle.hlc_frame.specs.Reading.{HasReadRest, tag_after}
use Rattle.hlc_frame.proofs.ListLemmas.{take_over, drop_over, take_again, drop_again}

-- ---- a block

-- whether bytes follow, after these
abbrev pub more_after : Bool → List ℕ → Bool
more_after true rest = true
more_after false rest = ltb 0 (length rest)

pub not_empty : (n : ℕ) → not (eqb n 0) ≡ ltb 0 n
not_empty n =
    elim (cases_lt 0 n) [
      | inl lt ↦
          let some : eqb n 0 ≡ false = ne_eqb _ _ (λ e. omega (arith, e)) in
          let more : ltb 0 n ≡ true = lt-ltb _ _ lt in
          rw (some, more) refl
      | inr le ↦
          let none : eqb n 0 ≡ true = eq-eqb _ _ (omega arith) in
          let ended : ltb 0 n ≡ false = le-ltb _ _ le in
          rw (none, ended) refl
    ]

more_over : (b : Bool) (xs ys : List ℕ) → b ≡ ltb 0 (length xs) → more_after b ys ≡ ltb 0 (length (xs ++ ys))
more_over true xs ys e =
    let some : 0 < length xs = ltb-true _ _ (sym e) in
    sym (lt-ltb _ _ (omega (arith, some, length-append xs ys)))
more_over false xs ys e =
    let none : length xs ≤ 0 = ltb-false _ _ (sym e) in
    let same : length ys ≡ length (xs ++ ys) = omega (arith, none, length-append xs ys) in
    ap (λ (n : ℕ). ltb 0 n) same

-- the part of the body in a block
pub fed_body : (old : RestReader) (front : List ℕ) (len : ℕ) (bytes block : List ℕ) → HasReadRest old front len bytes
    → take len bytes ++ take old.left block ≡ take len (bytes ++ block)
fed_body old front len bytes block has =
    ap (λ (n : ℕ). take len bytes ++ take n block) has.left ∙ sym (take_over len bytes block)

after_body : (old : RestReader) (front : List ℕ) (len : ℕ) (bytes block : List ℕ) → HasReadRest old front len bytes
    → drop len bytes ++ drop old.left block ≡ drop len (bytes ++ block)
after_body old front len bytes block has =
    ap (λ (n : ℕ). drop len bytes ++ drop n block) has.left ∙ sym (drop_over len bytes block)

-- the state of the reader after a block
pub record Took (old new : RestReader) (block : List ℕ) : Type 0 where
  pub hashed : (text : List ℕ) → Holds256 old.hasher text → Holds256 new.hasher (text ++ take old.left block)
  pub left : new.left ≡ old.left - length (take old.left block)
  pub digest : new.digest.items ≡ take 32 (old.digest.items ++ drop old.left block)
  pub more : new.more ≡ more_after old.more (drop (32 - length old.digest.items) (drop old.left block))

pub fed_rest : (old new : RestReader) (front : List ℕ) (len : ℕ) (bytes block : List ℕ) → Took old new block
    → HasReadRest old front len bytes → HasReadRest new front len (bytes ++ block)
fed_rest old new front len bytes block took has =
    let y : List ℕ = drop len bytes in
    let z : List ℕ = drop old.left block in
    let all' : y ++ z ≡ drop len (bytes ++ block) = after_body old front len bytes block has in
    let text : (front ++ take len bytes) ++ take old.left block ≡ front ++ take len (bytes ++ block) =
    append_assoc front (take len bytes) (take old.left block)
    ∙ ap (λ (l : List ℕ). front ++ l) (fed_body old front len bytes block has) in
    let left_is : new.left ≡ len - length (bytes ++ block) =
    let a = took.left in
    let b = has.left in
    let c = length-take old.left block in
    let d = length-append bytes block in
    omega (arith, a, b, c, d) in
    let past : drop 32 y ++ drop (32 - length old.digest.items) z ≡ drop 32 (drop len (bytes ++ block)) =
    ap (λ (l : List ℕ). drop 32 y ++ drop (32 - length l) z) has.digest ∙ drop_again 32 y z
    ∙ ap (λ (l : List ℕ). drop 32 l) all' in
    record {
      hashed = subst (λ (l : List ℕ). Holds256 new.hasher l) text (took.hashed (front ++ take len bytes) has.hashed);
      left = left_is;
      digest = took.digest ∙ ap (λ (l : List ℕ). take 32 (l ++ z)) has.digest ∙ take_again 32 y z
          ∙ ap (λ (l : List ℕ). take 32 l) all';
      more = took.more ∙ more_over old.more (drop 32 y) (drop (32 - length old.digest.items) z) has.more
          ∙ ap (λ (l : List ℕ). ltb 0 (length l)) past;
    }

-- ---- the end

-- the result if all of the digest is there
abbrev pub says : Bool → Bool → ℕ → Result ℕ WireFault
says same more tag = cond same (cond more (Err Trailing) (Ok tag)) (Err Damaged)

abbrev opens : List ℕ → List ℕ → List ℕ × List ℕ → Result (List ℕ × List ℕ) WireFault
opens front body digest = cond (bytes_eq digest.0 (sha256 (front ++ body))) (Ok (body, digest.1)) (Err Damaged)

abbrev said : Bool → List ℕ → List ℕ → Result (List ℕ × List ℕ) WireFault
said same body rest = cond same (Ok (body, rest)) (Err Damaged)

abbrev tagged : ℕ → Result (List ℕ × List ℕ) WireFault → Result ℕ WireFault
tagged tag read = whole read >>= λ body. Ok tag

says_it : (same : Bool) (tag : ℕ) (body rest : List ℕ) → tagged tag (said same body rest)
    ≡ says same (ltb 0 (length rest)) tag
says_it false tag body rest = refl
says_it true tag body rest =
    elim (cases_lt 0 (length rest)) [
      | inl lt ↦
          let some : eqb (length rest) 0 ≡ false = ne_eqb _ _ (λ e. omega (arith, e)) in
          let more : ltb 0 (length rest) ≡ true = lt-ltb _ _ lt in
          rw (some, more) refl
      | inr le ↦
          let none : eqb (length rest) 0 ≡ true = eq-eqb _ _ (omega arith) in
          let ended : ltb 0 (length rest) ≡ false = le-ltb _ _ le in
          rw (none, ended) refl
    ]

pub no_body : (reader : RestReader) (front : List ℕ) (len : ℕ) (bytes : List ℕ) (tag : ℕ)
    → HasReadRest reader front len bytes
    → 0 < reader.left → Err Short ≡ tag_after tag front len bytes
unfolding sealed_at
no_body reader front len bytes tag has some =
    let left = has.left in
    let short : ltb (length bytes) len ≡ true = lt-ltb _ _ (omega (arith, some, left)) in
    rw short refl

pub no_digest : (reader : RestReader) (front : List ℕ) (len : ℕ) (bytes : List ℕ) (tag : ℕ)
    → HasReadRest reader front len bytes → reader.left ≡ 0 → length reader.digest.items < 32
    → Err Short ≡ tag_after tag front len bytes
unfolding sealed_at
no_digest reader front len bytes tag has none few =
    let left = has.left in
    let digest : length reader.digest.items ≡ length (take 32 (drop len bytes)) = ap length has.digest in
    let long : ltb (length bytes) len ≡ false = le-ltb _ _ (omega (arith, none, left)) in
    let short : ltb (length (drop len bytes)) 32 ≡ true =
    lt-ltb _ _ (omega (arith, few, digest, length-take 32 (drop len bytes))) in
    rw (long, short) refl

pub with_digest : (reader : RestReader) (front : List ℕ) (len : ℕ) (bytes : List ℕ) (tag : ℕ) (same : Bool)
    → HasReadRest reader front len bytes → reader.left ≡ 0 → 32 ≤ length reader.digest.items
    → same ≡ bytes_eq reader.digest.items (sha256 (front ++ take len bytes))
    → says same reader.more tag ≡ tag_after tag front len bytes
unfolding sealed_at
with_digest reader front len bytes tag same has none full is =
    let left = has.left in
    let digest : length reader.digest.items ≡ length (take 32 (drop len bytes)) = ap length has.digest in
    let long : ltb (length bytes) len ≡ false = le-ltb _ _ (omega (arith, none, left)) in
    let enough : ltb (length (drop len bytes)) 32 ≡ false =
    le-ltb _ _ (omega (arith, full, digest, length-take 32 (drop len bytes))) in
    let tested : bytes_eq (take 32 (drop len bytes)) (sha256 (front ++ take len bytes)) ≡ same =
    sym (is ∙ ap (λ (l : List ℕ). bytes_eq l (sha256 (front ++ take len bytes))) has.digest) in
    ap (λ (b : Bool). says same b tag) has.more
    ∙ sym (says_it same tag (take len bytes) (drop 32 (drop len bytes)))
    ∙ rw (long, enough, tested) refl

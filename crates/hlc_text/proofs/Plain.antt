-- Bytes that are each their own spelling are read as themselves, since the first one is and the rest are such bytes.
use Rattle.std.proofs.Common.{◌<◌, ◌∙◌, if◌then◌else◌, length, arith, nat_eq, ne_eqb, sym, ◌≡◌, ℕ, List, [], ◌∷◌, Bool}
use Rattle.std.proofs.Common.{true, false, Option, Some, None, ap, refl, not, ◌&&◌, ◌==◌, ◌+◌, ◌*◌, inl, inr}
use Rattle.std.specs.{Prelude.unwrap_or, List.list_all, List.flat_map}
use Rattle.std.proofs.lemmas.{Bool.and_parts, Bool.false≢true, Bool.cases_Bool, Option.same_Some}
use Rattle.hlc_text.specs.Text.{is_literal, percent, byte_token, bytes_token}
use Rattle.hlc_text.specs.Spelling.{spelled_bytes, token_bytes, bytes_in, with_byte, is_own_spelling, is_hex, hex_value}
use Rattle.hlc_text.specs.Spelling.{is_escaped}

first_is_literal : (b : ℕ) (bs : List ℕ) → list_all is_literal (b ∷ bs) ≡ true
    → (is_literal b ≡ true) × (list_all is_literal bs ≡ true)
first_is_literal b bs h = and_parts (is_literal b) (list_all is_literal bs) h

not_percent : (b : ℕ) → is_literal b ≡ true → nat_eq b 37 ≡ false
not_percent b h = ne_eqb b 37 (λ percent. false≢true (sym (ap is_literal percent) ∙ h))

pub read_plain : (bs : List ℕ) → list_all is_literal bs ≡ true → spelled_bytes bs ≡ Some bs
read_plain [] h = refl
read_plain (b ∷ []) h = rw (first_is_literal b [] h).0 refl
read_plain (b ∷ c ∷ []) h = let p = first_is_literal b (c ∷ []) h in rw p.0 (ap (with_byte b) (read_plain (c ∷ []) p.1))
read_plain (b ∷ high ∷ low ∷ rest) h =
    let p = first_is_literal b (high ∷ low ∷ rest) h in rw p.0 (ap (with_byte b) (read_plain (high ∷ low ∷ rest) p.1))

pub plain_token : (bs : List ℕ) → 0 < length bs → list_all is_literal bs ≡ true → token_bytes bs ≡ Some bs
plain_token [] some h = absurd (omega arith)
plain_token (b ∷ []) some h =
    ap (λ (t : Bool). if t then Some [] else spelled_bytes (b ∷ [])) (not_percent b (first_is_literal b [] h).0)
    ∙ read_plain (b ∷ []) h
plain_token (b ∷ c ∷ rest) some h = read_plain (b ∷ c ∷ rest) h

pub plain_bytes : (bs : List ℕ) → 0 < length bs → list_all is_literal bs ≡ true → bytes_in bs ≡ bs
plain_bytes bs some h = ap (λ read. unwrap_or read []) (plain_token bs some h)

some≢none : {bs : List ℕ} → None ≡ Some bs → ⊥
some≢none e = cc

cons_not_nil : {d : ℕ} {bs : List ℕ} → Some [] ≡ Some (d ∷ bs) → ⊥
cons_not_nil e = cc

-- what was read after a byte that was put in front
after_byte : (b : ℕ) (read : Option (List ℕ)) (bs : List ℕ) → with_byte b read ≡ Some bs
    → (rest : List ℕ) × ((read ≡ Some rest) × (b ∷ rest ≡ bs))
after_byte b None bs is = absurd (some≢none is)
after_byte b (Some rest) bs is = (rest, (refl, same_Some (b ∷ rest) bs is))

-- one byte that is its own spelling, in front of such bytes
read_front : (b : ℕ) (text bs : List ℕ)
    → ((rest : List ℕ) → spelled_bytes text ≡ Some rest → list_all is_literal rest ≡ true → rest ≡ text)
    → with_byte b (spelled_bytes text) ≡ Some bs → list_all is_literal bs ≡ true → bs ≡ b ∷ text
read_front b text bs beyond is h =
    let w = after_byte b (spelled_bytes text) bs is in
    let all = first_is_literal b w.0 (ap (list_all is_literal) w.1.1 ∙ h) in
    sym w.1.1 ∙ ap (λ (l : List ℕ). b ∷ l) (beyond w.0 w.1.0 all.1)

-- no escape spells a byte that is its own spelling
not_escaped : (high low : ℕ) (read : Option (List ℕ)) (bs : List ℕ) → is_escaped high low ≡ true
    → with_byte (16 * hex_value high + hex_value low) read ≡ Some bs → list_all is_literal bs ≡ true → ⊥
not_escaped high low read bs escaped is h =
    let v = 16 * hex_value high + hex_value low in
    let w = after_byte v read bs is in
    let all = first_is_literal v w.0 (ap (list_all is_literal) w.1.1 ∙ h) in
    false≢true (sym (ap not all.0) ∙ (and_parts (is_hex high && is_hex low) (not (is_literal v)) escaped).1)

-- bytes that are each their own spelling are read from those bytes alone
read_as_plain : (text bs : List ℕ) → spelled_bytes text ≡ Some bs → list_all is_literal bs ≡ true → bs ≡ text
read_as_plain [] bs is h = sym (same_Some [] bs is)
read_as_plain (b ∷ []) bs is h =
    elim (cases_Bool (is_literal b)) [
      | inl plain ↦ sym (same_Some (b ∷ []) bs (rw plain at is))
      | inr other ↦ absurd (some≢none (rw other at is))
    ]
read_as_plain (b ∷ c ∷ []) bs is h =
    elim (cases_Bool (is_literal b)) [
      | inl plain ↦ read_front b (c ∷ []) bs (read_as_plain (c ∷ [])) (rw plain at is) h
      | inr other ↦ absurd (some≢none (rw other at is))
    ]
read_as_plain (b ∷ high ∷ low ∷ rest) bs is h =
    elim (cases_Bool (is_literal b)) [
      | inl plain ↦ read_front b (high ∷ low ∷ rest) bs (read_as_plain (high ∷ low ∷ rest)) (rw plain at is) h
      | inr other ↦ elim (cases_Bool (b == percent && is_escaped high low)) [
        | inl escape ↦ absurd (not_escaped high low (spelled_bytes rest) bs
            (and_parts (b == percent) (is_escaped high low) escape).1 (rw (other, escape) at is) h)
        | inr none ↦ absurd (some≢none (rw (other, none) at is))
      ]
    ]

pub own_spelling : (word bs : List ℕ) → token_bytes word ≡ Some bs → is_own_spelling bs ≡ true → bs ≡ word
own_spelling [] bs is own = absurd (some≢none is)
own_spelling (b ∷ []) [] is own = absurd (false≢true own)
own_spelling (b ∷ []) (d ∷ bs) is own =
    elim (cases_Bool (b == percent)) [
      | inl mark ↦ absurd (cons_not_nil (rw mark at is))
      | inr other ↦ read_as_plain (b ∷ []) (d ∷ bs)
          (sym (ap (λ (t : Bool). if t then Some [] else spelled_bytes (b ∷ [])) other) ∙ is) own
    ]
own_spelling (b ∷ c ∷ rest) [] is own = absurd (false≢true own)
own_spelling (b ∷ c ∷ rest) (d ∷ bs) is own = read_as_plain (b ∷ c ∷ rest) (d ∷ bs) is own

-- so a word that is not its own spelling spells no bytes that are
pub not_own_spelling : (word bs : List ℕ) → token_bytes word ≡ Some bs → is_own_spelling word ≡ false
    → is_own_spelling bs ≡ false
not_own_spelling word bs is other =
    elim (cases_Bool (is_own_spelling bs)) [
      | inl own ↦ absurd (false≢true (sym other ∙ ap is_own_spelling (sym (own_spelling word bs is own)) ∙ own))
      | inr plain ↦ plain
    ]

pub own_token : (bs : List ℕ) → is_own_spelling bs ≡ true → token_bytes bs ≡ Some bs
own_token [] own = absurd (false≢true own)
own_token (b ∷ bs) own = plain_token (b ∷ bs) (omega arith) own

pub own_bytes : (bs : List ℕ) → is_own_spelling bs ≡ true → bytes_in bs ≡ bs
own_bytes bs own = ap (λ read. unwrap_or read []) (own_token bs own)

-- and the word that spells them is these bytes
own_words : (bs : List ℕ) → list_all is_literal bs ≡ true → flat_map byte_token bs ≡ bs
own_words [] h = refl
own_words (b ∷ bs) h =
    let both = first_is_literal b bs h in rw both.0 (ap (λ (l : List ℕ). b ∷ l) (own_words bs both.1))

pub own_word : (bs : List ℕ) → is_own_spelling bs ≡ true → bytes_token bs ≡ bs
own_word [] own = absurd (false≢true own)
own_word (b ∷ bs) own = own_words (b ∷ bs) own

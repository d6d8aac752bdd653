-- Lemmas on a text with more bytes, for proofs about sentences: bytes after bytes are the bytes of both.
use Rattle.std.proofs.Common.{◌≡◌, ℕ, suc, zero, ◌≤◌, ◌<◌, ◌-◌, ◌+◌, ◌∙◌, sym, ap, refl, List, [], ◌∷◌, ◌++◌, length}
use Rattle.std.proofs.Common.{take, min, arith, length-append, append_assoc, inl, inr, nat_lt, get_or, filter, flat_map}
use Rattle.std.proofs.Common.{ltb-true, ltb-false, lt-ltb, le-ltb, append-nil}
use Rattle.std.proofs.lemmas.{Bool.cases_Bool, Grind.flat_map-append}
use Rattle.std.proofs.lemmas.List.{take_more, take_min, Elements.filter-append}
use Rattle.hlc_explain.specs.Sentence.{is_shown, with_byte, with_bytes, quoted_byte, quoted}

-- what of two lists has room: of the second, as much as the first leaves
take_both : (n : ℕ) (xs ys : List ℕ) → take n xs ++ take (n - length (take n xs)) ys ≡ take n (xs ++ ys)
take_both zero xs ys = refl
take_both (suc n) [] ys = let e : suc n - 0 ≡ suc n = omega arith in rw e refl
take_both (suc n) (x ∷ xs) ys =
    let e : suc n - suc (length (take n xs)) ≡ n - length (take n xs) = omega arith in
    rw e (ap (λ (l : List ℕ). x ∷ l) (take_both n xs ys))

pub then_more : (text first second : List ℕ)
    → with_bytes (with_bytes text first) second ≡ with_bytes text (first ++ second)
then_more text first second =
    let shown : List ℕ = filter is_shown first in
    let room : ℕ = 1000 - length text in
    let left : 1000 - length (text ++ take room shown) ≡ room - length (take room shown) =
    omega (arith, length-append text (take room shown)) in
    rw left (append_assoc text (take room shown) (take (room - length (take room shown)) (filter is_shown second))
    ∙ ap (λ (l : List ℕ). text ++ l) (take_both room shown (filter is_shown second)
    ∙ ap (λ (l : List ℕ). take room l) (sym (filter-append is_shown first second))))

take_none : (n : ℕ) → take {A = ℕ} n [] ≡ []
take_none zero = refl
take_none (suc n) = refl

take_first : (n byte : ℕ) → 0 < n → take n (byte ∷ []) ≡ byte ∷ []
take_first zero byte some = absurd (omega (arith, some))
take_first (suc n) byte some = ap (λ (l : List ℕ). byte ∷ l) (take_none n)

pub no_more : (text : List ℕ) → text ≡ with_bytes text []
no_more text = sym (ap (λ (l : List ℕ). text ++ l) (take_none (1000 - length text)) ∙ append-nil text)

pub one_more : (text : List ℕ) (byte : ℕ) → with_byte text byte ≡ with_bytes text (byte ∷ [])
one_more text byte =
    elim (cases_Bool (is_shown byte)) [
      | inl shown ↦ rw shown (elim (cases_Bool (nat_lt (length text) 1000)) [
        | inl room ↦ rw room (ap (λ (l : List ℕ). text ++ l)
            (sym (take_first (1000 - length text) byte (omega (arith, ltb-true (length text) 1000 room)))))
        | inr full ↦
            let none : 1000 - length text ≡ 0 = omega (arith, ltb-false (length text) 1000 full) in
            rw (full, none) (sym (append-nil text))
      ])
      | inr hidden ↦ rw hidden (no_more text)
    ]

-- a byte more of those that are put one by one
pub next_byte : (text old bytes : List ℕ) (new : List ℕ) (at : ℕ) → at < length bytes
    → text ≡ with_bytes old (take at bytes) → new ≡ with_byte text (get_or bytes at 0)
    → new ≡ with_bytes old (take (at + 1) bytes)
next_byte text old bytes new at below so_far is =
    is ∙ one_more text (get_or bytes at 0)
    ∙ ap (λ (l : List ℕ). with_bytes l (get_or bytes at 0 ∷ [])) so_far
    ∙ then_more old (take at bytes) (get_or bytes at 0 ∷ [])
    ∙ ap (λ (l : List ℕ). with_bytes old l) (sym (take_more bytes at 0 below))

-- likewise where each is put by what it is written as
pub next_written : (write : ℕ → List ℕ) (text old bytes new : List ℕ) (at : ℕ) → at < length bytes
    → text ≡ with_bytes old (flat_map write (take at bytes)) → new ≡ with_bytes text (write (get_or bytes at 0))
    → new ≡ with_bytes old (flat_map write (take (at + 1) bytes))
next_written write text old bytes new at below so_far is =
    let byte : ℕ = get_or bytes at 0 in
    is ∙ ap (λ (l : List ℕ). with_bytes l (write byte)) so_far
    ∙ then_more old (flat_map write (take at bytes)) (write byte)
    ∙ ap (λ (l : List ℕ). with_bytes old l)
    (ap (λ (l : List ℕ). flat_map write (take at bytes) ++ l) (sym (append-nil (write byte)))
    ∙ sym (flat_map-append write (take at bytes) (byte ∷ []))
    ∙ ap (λ (l : List ℕ). flat_map write l) (sym (take_more bytes at 0 below)))

-- two texts that are put one after the other
pub both_put : (old first second : List ℕ) {mid new : List ℕ} → mid ≡ with_bytes old first
    → new ≡ with_bytes mid second → new ≡ with_bytes old (first ++ second)
both_put old first second one two =
    two ∙ ap (λ (l : List ℕ). with_bytes l second) one ∙ then_more old first second

-- two bytes likewise
pub both_digits : (old mid new : List ℕ) {a b : ℕ} (first second : ℕ) → a ≡ first → b ≡ second
    → mid ≡ with_byte old a → new ≡ with_byte mid b → new ≡ with_bytes old (first ∷ second ∷ [])
both_digits old mid new {a} {b} first second is also one two =
    both_put old (first ∷ []) (second ∷ [])
    (one ∙ one_more old a ∙ ap (λ (d : ℕ). with_bytes old (d ∷ [])) is)
    (two ∙ one_more mid b ∙ ap (λ (d : ℕ). with_bytes mid (d ∷ [])) also)

-- a quotation mark, the bytes and a quotation mark
in_marks : (old text a b c : List ℕ) (count : ℕ) → count ≡ min 80 (length text)
    → a ≡ with_bytes old (39 ∷ []) → b ≡ with_bytes a (flat_map quoted_byte (take count text))
    → c ≡ with_bytes b (39 ∷ []) → c ≡ with_bytes old (39 ∷ (flat_map quoted_byte (take 80 text) ++ 39 ∷ []))
in_marks old text a b c count is one two three =
    let bytes : List ℕ = flat_map quoted_byte (take 80 text) in
    let cut : take count text ≡ take 80 text = ap (λ (n : ℕ). take n text) is ∙ take_min 80 text in
    both_put old (39 ∷ bytes) (39 ∷ [])
    (both_put old (39 ∷ []) bytes one (two ∙ ap (λ (l : List ℕ). with_bytes a (flat_map quoted_byte l)) cut)) three

pub short_quoted : (old text a b c : List ℕ) (count : ℕ) → count ≡ min 80 (length text)
    → a ≡ with_bytes old (39 ∷ []) → b ≡ with_bytes a (flat_map quoted_byte (take count text))
    → c ≡ with_bytes b (39 ∷ []) → length text ≤ 80 → c ≡ with_bytes old (quoted text)
short_quoted old text a b c count is one two three short =
    let bytes : List ℕ = flat_map quoted_byte (take 80 text) in
    rw (le-ltb 80 (length text) short)
    (in_marks old text a b c count is one two three
    ∙ ap (λ (l : List ℕ). with_bytes old (39 ∷ l)) (sym (append-nil (bytes ++ 39 ∷ []))))

pub long_quoted : (old text a b c d : List ℕ) (count : ℕ) → count ≡ min 80 (length text)
    → a ≡ with_bytes old (39 ∷ []) → b ≡ with_bytes a (flat_map quoted_byte (take count text))
    → c ≡ with_bytes b (39 ∷ []) → 80 < length text → d ≡ with_bytes c (46 ∷ 46 ∷ [])
    → d ≡ with_bytes old (quoted text)
long_quoted old text a b c d count is one two three long four =
    let bytes : List ℕ = flat_map quoted_byte (take 80 text) in
    rw (lt-ltb 80 (length text) long)
    (both_put old (39 ∷ (bytes ++ 39 ∷ [])) (46 ∷ 46 ∷ []) (in_marks old text a b c count is one two three) four)

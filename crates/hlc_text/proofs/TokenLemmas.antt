-- Lemmas on words, for proofs about lines: the spellings contain no byte that separates words or lines, so a line is
-- split into the words from which it was built; and a stamp's text is split into its two numbers, so it represents no
-- other stamp.
use Rattle.std.proofs.Common.{◌≡◌, ℕ, ◌/◌, ◌%◌, ◌<◌, ◌≤◌, ◌^◌, ◌∙◌, sym, ap, refl, true, false, List, [], ◌∷◌, ◌++◌}
use Rattle.std.proofs.Common.{get_or, length, arith, eqb, inl, inr, le-leb}
use Rattle.std.specs.{Prelude.◌≢◌, Prelude.decimal, Prelude.nat_le, Fmt.digit_glyph}
use Rattle.std.specs.List.{slice_split, flat_map, All, AllByRecursion, list_all, join_with_byte}
use Rattle.std.proofs.lemmas.Bool.{cases_Bool, ne_eqb, and_parts, and_from, leb-true}
use Rattle.std.proofs.lemmas.{Grind.common_steps, Str.Parse.digit_at, Fmt.decimal_is_IsNumeral, Fmt.decimal_injective}
use Rattle.std.proofs.lemmas.List.Elements.{All-from_get_or, All-from_recursion}
use Rattle.std.proofs.lemmas.List.{Sums.list_all-from_AllPass, Folds.list_all-append}
use Rattle.std.proofs.lemmas.List.Splits.{slice_split_none, slice_split_at}
use Rattle.hlc_clock.specs.Stamp.{stamp_text}
use Rattle.hlc_text.specs.Text.{is_literal, byte_token, bytes_token}

-- the text is a word: it contains neither a space nor a line feed, nor any other byte below 33. For a literal `refl`
-- proves this
abbrev pub IsWord : List ℕ → Type 0
IsWord text = list_all (nat_le 33) text ≡ true

-- texts of two parts
both : (xs ys : List ℕ) → IsWord xs → IsWord ys → IsWord (xs ++ ys)
both xs ys first second = list_all-append (nat_le 33) xs ys ∙ and_from _ _ first second

pub number_is_word : (n : ℕ) → n < 2 ^ 64 → IsWord (decimal n)
number_is_word n small =
    let digits = (decimal_is_IsNumeral n small).0.1 in
    list_all-from_AllPass (nat_le 33) (decimal n)
    (All-from_get_or (λ b. nat_le 33 b ≡ true) (decimal n) 0 (λ i within. let in_range =
    digit_at (decimal n) i digits within in le-leb 33 (get_or (decimal n) i 0) (omega (arith, in_range))))

pub stamp_is_word : (s : ℕ) → s < 2 ^ 64 → IsWord (stamp_text s)
stamp_is_word s small =
    both (decimal (s / 65536)) (46 ∷ decimal (s % 65536)) (number_is_word (s / 65536) (omega arith))
    (number_is_word (s % 65536) (omega arith))

glyph_is_above : (d : ℕ) → nat_le 33 (digit_glyph true d) ≡ true
glyph_is_above d = le-leb 33 (digit_glyph true d) (grind (arith, common_steps))

byte_is_word : (b : ℕ) → IsWord (byte_token b)
byte_is_word b =
    elim (cases_Bool (is_literal b)) [
      | inl plain ↦ rw plain (and_from _ _ (le-leb 33 b (grind (arith, plain))) refl)
      | inr escaped ↦ rw escaped (and_from _ _ (glyph_is_above (b / 16)) (and_from _ _ (glyph_is_above (b % 16)) refl))
    ]

each_byte : (bytes : List ℕ) → IsWord (flat_map byte_token bytes)
each_byte [] = refl
each_byte (b ∷ bytes) = both (byte_token b) (flat_map byte_token bytes) (byte_is_word b) (each_byte bytes)

pub bytes_are_word : (bytes : List ℕ) → IsWord (bytes_token bytes)
bytes_are_word [] = refl
bytes_are_word (b ∷ bytes) = each_byte (b ∷ bytes)

-- no byte of a text is this one
abbrev Lacks : ℕ → List ℕ → Type 0
Lacks c text = AllByRecursion (λ b. eqb b c ≡ false) text

word_lacks : (c : ℕ) → c < 33 → (word : List ℕ) → IsWord word → Lacks c word
word_lacks c low [] is = tt
word_lacks c low (b ∷ word) is =
    let parts = and_parts (nat_le 33 b) (list_all (nat_le 33) word) is in
    let above : 33 ≤ b = leb-true 33 b parts.0 in
    (ne_eqb b c (λ e. absurd (omega (arith, above, e))), word_lacks c low word parts.1)

lacks_both : (c : ℕ) (xs ys : List ℕ) → Lacks c xs → Lacks c ys → Lacks c (xs ++ ys)
lacks_both c [] ys first second = second
lacks_both c (x ∷ xs) ys first second = (first.0, lacks_both c xs ys first.1 second)

-- a word contains no byte below 33, such as 32, a space, or 10, a line feed
pub word_has_no : (c : ℕ) → c < 33 → (word : List ℕ) → IsWord word → All (λ b. eqb b c ≡ false) word
word_has_no c low word is = All-from_recursion (λ b. eqb b c ≡ false) word (word_lacks c low word is)

line_lacks : (words : List (List ℕ)) → AllByRecursion IsWord words → Lacks 10 (join_with_byte 32 words)
line_lacks [] are = tt
line_lacks (word ∷ []) are = word_lacks 10 (omega arith) word are.0
line_lacks (word ∷ next ∷ words) are =
    lacks_both 10 word (32 ∷ join_with_byte 32 (next ∷ words)) (word_lacks 10 (omega arith) word are.0)
    (refl, line_lacks (next ∷ words) are.1)

-- words with one space between each two contain no line feed
pub line_has_no_feed : (words : List (List ℕ)) → AllByRecursion IsWord words
    → All (λ b. eqb b 10 ≡ false) (join_with_byte 32 words)
line_has_no_feed words are = All-from_recursion (λ b. eqb b 10 ≡ false) (join_with_byte 32 words) (line_lacks words are)

-- words with one space between each two are split into those words
pub split_words : (word : List ℕ) (words : List (List ℕ)) → AllByRecursion IsWord (word ∷ words)
    → slice_split (λ b. eqb b 32) (join_with_byte 32 (word ∷ words)) ≡ word ∷ words
split_words word [] are = slice_split_none (λ b. eqb b 32) word (word_has_no 32 (omega arith) word are.0)
split_words word (next ∷ words) are =
    slice_split_at (λ b. eqb b 32) word 32 (join_with_byte 32 (next ∷ words))
    (word_has_no 32 (omega arith) word are.0) refl ∙ ap (λ ws. word ∷ ws) (split_words next words are.1)

-- a line is split from what comes after its line feed
pub split_line : (line rest : List ℕ) → All (λ b. eqb b 10 ≡ false) line
    → slice_split (λ b. eqb b 10) (line ++ 10 ∷ rest) ≡ line ∷ slice_split (λ b. eqb b 10) rest
split_line line rest none = slice_split_at (λ b. eqb b 10) line 10 rest none refl

no_stop : (n : ℕ) → n < 2 ^ 64 → All (λ b. eqb b 46 ≡ false) (decimal n)
no_stop n small =
    let digits = (decimal_is_IsNumeral n small).0.1 in
    All-from_get_or (λ b. eqb b 46 ≡ false) (decimal n) 0 (λ i within. let in_range = digit_at
    (decimal n) i digits within in ne_eqb (get_or (decimal n) i 0) 46 (λ e. absurd (omega (arith, in_range, e))))

pub split_number : (n : ℕ) → n < 2 ^ 64 → slice_split (λ b. eqb b 46) (decimal n) ≡ decimal n ∷ []
split_number n small = slice_split_none (λ b. eqb b 46) (decimal n) (no_stop n small)

split_two : (l c : ℕ) → l < 2 ^ 64 → c < 2 ^ 64
    → slice_split (λ b. eqb b 46) (decimal l ++ 46 ∷ decimal c) ≡ decimal l ∷ decimal c ∷ []
split_two l c small_l small_c =
    slice_split_at (λ b. eqb b 46) (decimal l) 46 (decimal c) (no_stop l small_l) refl
    ∙ ap (λ parts. decimal l ∷ parts) (split_number c small_c)

-- a stamp's text is split into its two numbers
pub split_stamp : (s : ℕ) → s < 2 ^ 64
    → slice_split (λ b. eqb b 46) (stamp_text s) ≡ decimal (s / 65536) ∷ decimal (s % 65536) ∷ []
split_stamp s small = split_two (s / 65536) (s % 65536) (omega arith) (omega arith)

-- a word without a full stop is no stamp
pub no_stamp : (word : List ℕ) (s : ℕ) → slice_split (λ b. eqb b 46) word ≡ word ∷ [] → s < 2 ^ 64 → word ≢ stamp_text s
no_stamp word s one small e =
    let two : word ∷ [] ≡ decimal (s / 65536) ∷ decimal (s % 65536) ∷ [] = sym one ∙ ap (slice_split (λ b. eqb b 46)) e
    ∙ split_stamp s small in
    absurd (omega (arith, ap length two))

-- a text of two numbers represents one stamp
pub one_stamp : (s t : ℕ) → s < 2 ^ 64 → t < 2 ^ 64 → stamp_text s ≡ stamp_text t → s ≡ t
one_stamp s t small also e =
    let both : decimal (s / 65536) ∷ decimal (s % 65536) ∷ [] ≡ decimal (t / 65536) ∷ decimal (t % 65536) ∷ [] =
    sym (split_stamp s small) ∙ ap (slice_split (λ b. eqb b 46)) e ∙ split_stamp t also in
    let above : decimal (s / 65536) ≡ decimal (t / 65536) = cc in
    let below : decimal (s % 65536) ≡ decimal (t % 65536) = cc in
    let quotient : s / 65536 ≡ t / 65536 = decimal_injective _ _ (omega arith) (omega arith) above in
    let remainder : s % 65536 ≡ t % 65536 = decimal_injective _ _ (omega arith) (omega arith) below in
    omega (arith, quotient, remainder)

-- A line of a certificate is split into the words from which it was built, and its first word determines what it says.
use Rattle.std.proofs.Common.{◌≡◌, ℕ, ◌<◌, ◌^◌, ap, refl, List, [], ◌∷◌, get_or, Option, Some, None, arith, eqb}
use Rattle.std.specs.{Prelude.decimal, Prelude.codes, Prelude.◌≢◌, List.slice_split, List.AllByRecursion}
use Rattle.hlc_clock.specs.Stamp.{stamp_text}
use Rattle.hlc_text.specs.Text.{bytes_token, AreBytes}
use Rattle.hlc_text.proofs.TokenLemmas.{IsWord, number_is_word, stamp_is_word, bytes_are_word, split_words}
use Rattle.hlc_certificate.specs.declared.check_line.CheckLine.{CheckLine}
use Rattle.hlc_certificate.specs.declared.check_line.CheckLine.TheVariants.{Point, Row, Witness}
use Rattle.hlc_certificate.specs.CheckLine.{check_words, check_line, HasCheckLine, value_words, HasValueWords}
use Rattle.hlc_certificate.specs.CheckLine.{before_token, HasBeforeToken}

value_is_words : (value : Option (List ℕ)) → AllByRecursion IsWord (value_words value)
value_is_words None = (refl, tt)
value_is_words (Some value) = (refl, (bytes_are_word value, tt))

before_is_word : (before : Option ℕ) → HasBeforeToken before → IsWord (before_token before)
before_is_word None has = refl
before_is_word (Some stamp) has = stamp_is_word stamp has

-- each word of a line is one
pub are_words : (x : CheckLine) → HasCheckLine x → AllByRecursion IsWord (check_words x)
are_words (Point stamp) has = (refl, (stamp_is_word stamp has, tt))
are_words (Row key stamp node value) has = (
  refl,
  (bytes_are_word key, (stamp_is_word stamp has.1, (number_is_word node (omega arith), value_is_words value))),
)
are_words (Witness key before at) has =
    (refl, (bytes_are_word key, (before_is_word before has.1, (stamp_is_word at has.2, tt))))

-- the words of a line are the words from which it was built
pub words_of_check_line : (x : CheckLine) → HasCheckLine x
    → slice_split (λ b. eqb b 32) (check_line x) ≡ check_words x
words_of_check_line (Point stamp) has =
    split_words (codes "point") (stamp_text stamp ∷ []) (are_words (Point stamp) has)
words_of_check_line (Row key stamp node value) has =
    split_words (codes "row") (bytes_token key ∷ stamp_text stamp ∷ decimal node ∷ value_words value)
    (are_words (Row key stamp node value) has)
words_of_check_line (Witness key before at) has =
    split_words (codes "witness") (bytes_token key ∷ before_token before ∷ stamp_text at ∷ [])
    (are_words (Witness key before at) has)

-- the first byte of the first word
abbrev pub initial : List (List ℕ) → ℕ
initial [] = 0
initial (word ∷ words) = get_or word 0 0

-- where the words after the first do not fit, nothing has these words
pub no_row : (args : List (List ℕ))
    → ((x : List ℕ × ℕ × ℕ × Option (List ℕ)) → AreBytes x.0 × (x.1 < 2 ^ 64) × (x.2 < 2 ^ 16) × HasValueWords x.3
    → args ≢ bytes_token x.0 ∷ stamp_text x.1 ∷ decimal x.2 ∷ value_words x.3) → (x : CheckLine) → HasCheckLine x
    → codes "row" ∷ args ≢ check_words x
no_row args none (Row key stamp node value) has is =
    let rest : args ≡ bytes_token key ∷ stamp_text stamp ∷ decimal node ∷ value_words value = cc in
    none (key, stamp, node, value) has rest
no_row args none x has is = absurd (omega (arith, ap initial is))

pub no_witness : (args : List (List ℕ))
    → ((x : List ℕ × Option ℕ × ℕ) → AreBytes x.0 × HasBeforeToken x.1 × (x.2 < 2 ^ 64)
    → args ≢ bytes_token x.0 ∷ before_token x.1 ∷ stamp_text x.2 ∷ []) → (x : CheckLine) → HasCheckLine x
    → codes "witness" ∷ args ≢ check_words x
no_witness args none (Witness key before at) has is =
    let rest : args ≡ bytes_token key ∷ before_token before ∷ stamp_text at ∷ [] = cc in
    none (key, before, at) has rest
no_witness args none x has is = absurd (omega (arith, ap initial is))

-- Lemmas on inputs, for proofs about what reads them: an input is read piece by piece, split into lines, and each line
-- into its words.
use Rattle.std.proofs.Common.{◌≡◌, ℕ, ◌<◌, ◌≤◌, ◌∙◌, sym, ap, refl, List, [], ◌∷◌, ◌++◌, length, Option, Some, None}
use Rattle.std.proofs.Common.{append_assoc, arith, eqb, length-append}
use Rattle.std.specs.{List.slice_split, Io.KnownBytes.Consumes}
use Rattle.std.proofs.lemmas.List.Splits.{length-slice_split, join_with_byte-slice_split}
use Rattle.hlc_text.specs.{Text.Reads, Input.IsInput, Lines.spaced, Lines.lines_of_parts, Lines.lines_of}

-- a line that is cut off is the first line
pub first_of_lines : (line text rest : List ℕ)
    → slice_split (λ b. eqb b 10) text ≡ line ∷ slice_split (λ b. eqb b 10) rest → lines_of text ≡ line ∷ lines_of rest
first_of_lines line text rest e =
    ap lines_of_parts e
    ∙ not_last (slice_split (λ b. eqb b 10) rest) (omega (arith, length-slice_split (λ b. eqb b 10) rest))
  where
    not_last : (parts : List (List ℕ)) → 0 < length parts → lines_of_parts (line ∷ parts) ≡ line ∷ lines_of_parts parts
    not_last [] some = absurd (omega arith)
    not_last (part ∷ parts) some = refl

-- what was taken, and then more
pub taken_more : (before now after : Option (List ℕ)) (taken more : List ℕ) → Consumes before now taken
    → Consumes now after more → Consumes before after (taken ++ more)
taken_more None now after taken more first second = tt
taken_more (Some xs) None after taken more first second = absurd first
taken_more (Some xs) (Some ys) None taken more first second = absurd second
taken_more (Some xs) (Some ys) (Some zs) taken more first second =
    first ∙ ap (λ l. taken ++ l) second ∙ sym (append_assoc taken more zs)

-- what was taken is the beginning of an input
pub input_taken : (before after : Option (List ℕ)) (taken : List ℕ) → Consumes before after taken
    → (input : List ℕ) × IsInput before input × (length taken ≤ length input)
input_taken None after taken is = (taken, tt, omega arith)
input_taken (Some xs) None taken is = absurd is
input_taken (Some xs) (Some ys) taken is = (xs, refl, omega (arith, ap length is, length-append taken ys))

-- what is read from the words is read from the line
pub read_from_words : {X : Type 0} (words_of : X → List (List ℕ)) (Fits : X → Type 0)
    → ((x : X) → Fits x → slice_split (λ b. eqb b 32) (spaced (words_of x)) ≡ words_of x)
    → (line : List ℕ) (words : List (List ℕ)) (read : Option X) → words ≡ slice_split (λ b. eqb b 32) line
    → Reads words_of Fits words read → Reads (λ x. spaced (words_of x)) Fits line read
read_from_words words_of Fits law line words (Some x) is found =
    (found.0, sym (join_with_byte-slice_split 32 line) ∙ ap spaced (sym is ∙ found.1))
read_from_words words_of Fits law line words None is none =
    λ x fits spelled. none x fits (is ∙ ap (slice_split (λ b. eqb b 32)) spelled ∙ law x fits)

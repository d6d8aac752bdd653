-- The lines of a text, the words of a line, and the line that refuses another.
use Rattle.std.specs.Prelude.{ℕ, ◌==◌, List, [], ◌∷◌, ◌++◌, length, codes, decimal, if◌then◌else◌}
use Rattle.std.specs.List.{slice_split, join_with_byte}

-- words with one space between each two
abbrev pub spaced : List (List ℕ) → List ℕ
spaced words = join_with_byte 32 words

-- the parts between line feeds, without an empty last one
abbrev pub lines_of_parts : List (List ℕ) → List (List ℕ)
lines_of_parts [] = []
lines_of_parts (line ∷ []) = if length line == 0 then [] else line ∷ []
lines_of_parts (line ∷ next ∷ lines) = line ∷ lines_of_parts (next ∷ lines)

-- the lines of a text: a line feed ends each, and the last one may have none
abbrev pub lines_of : List ℕ → List (List ℕ)
lines_of text = lines_of_parts (slice_split (λ byte. byte == 10) text)

-- the line that refuses the line of this number
abbrev pub bad_line : ℕ → List ℕ
bad_line number = codes "refused 16 line " ++ decimal number

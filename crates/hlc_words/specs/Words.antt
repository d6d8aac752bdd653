-- The words after the program's name. The type ensures that the sizes of a storm are in their ranges.
use Rattle.std.specs.Prelude.{◌≡◌, ℕ, List, [], ◌∷◌, Option, Some, None, map, codes, decimal, String, string_bytes, ⊤}
use Rattle.hlc_text.specs.{declared.watched.Watched.Watched, Printing.Writes, Text.Reads, Text.printed}
use Rattle.hlc_words.specs.declared.plan.StormPlan.{StormPlan}
use Rattle.hlc_words.specs.declared.words.Words.{Words, TheVariants.Run, TheVariants.Check, TheVariants.Storm}

-- the bytes of each word
abbrev pub bytes_of : {Z : Type 0} → List (String Z) → List (List ℕ)
bytes_of words = map (λ word. string_bytes word) words

-- the words after `storm`
abbrev pub plan_words : StormPlan → List (List ℕ)
plan_words plan =
    codes "--nodes" ∷ decimal plan.nodes ∷ codes "--writes" ∷ decimal plan.writes
    ∷ codes "--keys" ∷ decimal plan.keys ∷ codes "--readers" ∷ decimal plan.readers ∷ []

-- the words that ask for this
abbrev pub words_of : Words → List (List ℕ)
words_of Run = codes "run" ∷ []
words_of Check = codes "check" ∷ []
words_of (Storm plan) = codes "storm" ∷ plan_words plan

-- what the words ask for; words for which it ran out of memory ask for nothing
abbrev pub Asks : Option (List (List ℕ)) → Option Words → Type 0
Asks None asked = asked ≡ None
Asks (Some words) asked = Reads words_of (λ asked. ⊤) words asked

-- it is written that the words are refused, and the exit status is the one for that
abbrev pub RefusesWords : {W : Type 0} → (W → Option (List ℕ)) → Watched W → Watched W → ℕ → Type 0
RefusesWords contents writer writer_after status =
    Writes contents writer writer_after (printed (codes "refused 25")) × (status ≡ 1)

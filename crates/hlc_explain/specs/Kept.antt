-- What a reader keeps of the bytes that it gave.
use Rattle.std.specs.Prelude.{◌≡◌, ◌++◌, ◌==◌, ℕ, List, Bool, take, MatchResult, Result, if◌then◌else◌}
use Rattle.hlc_explain.specs.declared.kept.{Kept.Kept, Last.Last}

-- the reader whose bytes are kept
abbrev pub source_of : {R : Type 0} → Kept R → R
source_of kept = kept.inner

-- nothing that was given is missing
abbrev pub is_whole : {R : Type 0} → Kept R → Bool
is_whole kept = kept.is_whole

-- the bytes that are kept
abbrev pub kept_bytes : {R : Type 0} → Kept R → List ℕ
kept_bytes kept = kept.bytes.items

-- what came of the last read
abbrev pub last_read : {R : Type 0} → Kept R → Last
last_read kept = kept.last

-- what came of a read that gave this many bytes
abbrev pub last_of : ℕ → Last
last_of count = if count == 0 then Last.End else Last.More

-- a read adds the bytes that it gave, and a read that fails adds none
abbrev pub Adds : {E : Type 0} → List ℕ → List ℕ → Result ℕ E → List ℕ → Type 0
Adds old new outcome buffer = MatchResult outcome (λ n. new ≡ old ++ take n buffer) (λ _. new ≡ old)

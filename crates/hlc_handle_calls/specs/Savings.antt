-- A saving in pieces, before and after a call.
use Rattle.std.specs.Prelude.{◌≡◌, ◌⊎◌, ◌<◌, ◌≤◌, ℕ, List, [], ◌++◌, Option, Some, None, MatchOption, length, take}
use Rattle.std.specs.Prelude.{drop}
use Rattle.hlc_core.specs.StoreView.{StoreView}
use Rattle.hlc_body.specs.Spelling.{saved_bytes}
use Rattle.hlc_saved.specs.declared.{fault.SaverError.SaverError, savings.Saver.Saver}
use Rattle.hlc_saved.specs.{Faults.saver_code, Saved.AreOfStore, Saver.HasMade, Saver.IsRefused, Saver.mark_of}

-- it has begun, nothing was read, and it will be this many bytes; or it did not start, out of memory; one that was
-- under way goes on
abbrev pub HasBegun : Option Saver → Option Saver → ℕ → StoreView → ℕ → ℕ → Type 0
HasBegun (Some before) new tag core code len = (code ≡ 119) × (len ≡ 0) × (new ≡ Some before)
HasBegun None new tag core code len = MatchOption new ((code ≡ 15) × (len ≡ 0))
    (λ saver. (code ≡ 0) × (len ≡ length (saved_bytes tag core)) × HasMade saver tag core [])

-- this many bytes are at the start of the buffer, whose other bytes are as they were
abbrev pub AreWritten : ℕ → List ℕ → List ℕ → Type 0
AreWritten len old out = (len ≤ length old) × (drop len out ≡ drop len old)

-- of a store that did not change since the start the last bytes were read: with those before, all are a checkpoint of
-- it; and the saving has ended
abbrev pub ReadsLast : Saver → StoreView → ℕ → ℕ → List ℕ → List ℕ → Type 0
ReadsLast before core code len old out =
    (code ≡ 0) × (mark_of core ≡ before.mark) × AreWritten len old out
    × ((tag : ℕ) (read : List ℕ) → HasMade before tag core read → AreOfStore (read ++ take len out) tag core)

-- of a store that did not change since the start the next bytes were read, at least one if the buffer has room; and the
-- saving goes on
abbrev pub ReadsNext : Saver → Saver → StoreView → ℕ → ℕ → List ℕ → List ℕ → Type 0
ReadsNext before after core code len old out =
    (code ≡ 104) × (mark_of core ≡ before.mark) × AreWritten len old out × ((0 < len) ⊎ (length old ≡ 0))
    × ((tag : ℕ) (read : List ℕ) → HasMade before tag core read → HasMade after tag core (read ++ take len out))

-- nothing was read, since the store changed since the start, or it did not and memory ran out; and the saving is as it
-- was
abbrev pub ReadsNone : Saver → Saver → StoreView → ℕ → ℕ → List ℕ → List ℕ → Type 0
ReadsNone before after core code len old out =
    (len ≡ 0) × (out ≡ old) × (after ≡ before) × (error : SaverError) × IsRefused before core error
    × (code ≡ saver_code error)

-- what a call reads of a saving that is under way, if one is
abbrev pub HasReadOn : Option Saver → Option Saver → StoreView → ℕ → ℕ → List ℕ → List ℕ → Type 0
HasReadOn None new core code len old out = (code ≡ 118) × (len ≡ 0) × (new ≡ None) × (out ≡ old)
HasReadOn (Some before) new core code len old out = MatchOption new (ReadsLast before core code len old out)
    (λ after. ReadsNext before after core code len old out ⊎ ReadsNone before after core code len old out)

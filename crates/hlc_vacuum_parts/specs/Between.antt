-- A pass with calls between its parts: parts of a vacuum to one stamp, from the first key to the last.
use Rattle.std.specs.Prelude.{◌≡◌, ℕ, ◌+◌, List, [], ◌∷◌, Option, None, Ok, MatchOption}
use Rattle.hlc_vacuum_draft.specs.declared.report.Report.{Report}
use Rattle.hlc_vacuum.specs.Representing.{IsWithin}
use Rattle.hlc_core.specs.Past.{Step}
use Rattle.hlc_core.specs.StoreView.{StoreView, Represents}
use Rattle.hlc_core.specs.Parts.{VacuumsPart}
use Rattle.hlc_core.specs.GoneOn.{HasGoneOn}

-- a part that was made: the state of the store before it, and a past that this represented; of how many keys at most;
-- its report, where it ended, and the state that it left
pub record MadePart : Type 0 where
  pub before : StoreView
  pub past : List Step
  pub limit : ℕ
  pub report : Report
  pub end : Option (List ℕ)
  pub left : StoreView

-- it is part of a vacuum to the stamp, of the first keys above this one: what the contract of the call says
pub record IsPartAt (at : ℕ) (after : List ℕ) (part : MadePart) : Type 0 where
  pub represents : Represents part.before part.past
  pub vacuums : VacuumsPart part.before part.left at after part.limit part.past (Ok (part.report, part.end))
  pub within : IsWithin part.before.rows part.left.rows

-- The parts are a pass to the stamp: the first begins above this key, each other one where the one before it ended, and
-- the last one ended nowhere. Between two of them the store went on by any calls.
abbrev pub ArePassWithCalls : ℕ → List ℕ → MadePart → List MadePart → Type 0
ArePassWithCalls at after part [] = IsPartAt at after part × (part.end ≡ None)
ArePassWithCalls at after part (next ∷ parts) =
    IsPartAt at after part × HasGoneOn part.left next.before
    × MatchOption part.end ⊥ (λ key. ArePassWithCalls at key next parts)

-- the state that the last part left
abbrev pub left_last : MadePart → List MadePart → StoreView
left_last part [] = part.left
left_last part (next ∷ parts) = left_last next parts

-- how many rows the parts kept: as many as the changes of all writes that were accepted by then, of the keys of each
abbrev pub kept_by : MadePart → List MadePart → ℕ
kept_by part [] = part.report.kept
kept_by part (next ∷ parts) = part.report.kept + kept_by next parts

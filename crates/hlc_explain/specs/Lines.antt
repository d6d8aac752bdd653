-- The first line of a script that is not that of an event.
use Rattle.std.specs.Prelude.{◌≡◌, ℕ, List, Some, slice_get, take}
use Rattle.std.specs.List.{AllByRecursion}
use Rattle.hlc_world_event.specs.Events.{Event}
use Rattle.hlc_line.specs.Line.{event_line, HasLine}

-- the line is that of an event
abbrev pub IsEventLine : List ℕ → Type 0
IsEventLine line = (event : Event) × (HasLine event × (line ≡ event_line event))

-- each line is that of an event
abbrev pub AreEventLines : List (List ℕ) → Type 0
AreEventLines lines = AllByRecursion IsEventLine lines

-- the line after this many others is not that of an event, and each of those before it is
abbrev pub IsFirstBadLine : List (List ℕ) → ℕ → List ℕ → Type 0
IsFirstBadLine lines before line =
    (slice_get lines before ≡ Some line) × AreEventLines (take before lines) × (IsEventLine line → ⊥)

-- The least of some values, over those whose node has not retired.
use Rattle.std.specs.Prelude.{ℕ, zero, suc, Bool, Option, Some, None, min, if◌then◌else◌}

-- the lower of the two, or the one
abbrev pub lower : Option ℕ → ℕ → ℕ
lower None b = b
lower (Some a) b = min a b

-- the least of f 0, f 1 and so on, below n, over those that have not retired; none if all have
abbrev pub least_left : (ℕ → ℕ) → (ℕ → Bool) → ℕ → Option ℕ
least_left f has_retired zero = None
least_left f has_retired (suc n) =
    if has_retired n then least_left f has_retired n else Some (lower (least_left f has_retired n) (f n))

-- the value, or else this one
abbrev pub or_else : Option ℕ → ℕ → ℕ
or_else None top = top
or_else (Some low) top = low

-- the least of them, or else this one
abbrev pub low : (ℕ → ℕ) → (ℕ → Bool) → ℕ → ℕ → ℕ
low f has_retired n top = or_else (least_left f has_retired n) top

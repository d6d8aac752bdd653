-- What a line is, as its first and its last bytes show.
use Rattle.std.specs.Prelude.{◌||◌, ◌∷◌, [], ℕ, List, codes, nat_eq, length, if◌then◌else◌}
use Rattle.std.specs.List.{starts_with, ends_with}
use Rattle.hlc_explain.specs.declared.look.LineLook.{LineLook}
use Rattle.hlc_explain.specs.declared.look.LineLook.TheVariants.{ByteOrderMark, CarriageReturn, Empty, Comment, Words}

-- what the line is: the first of these that fits
abbrev pub look_of : List ℕ → LineLook
look_of line =
    if starts_with nat_eq line (239 ∷ 187 ∷ 191 ∷ []) || starts_with nat_eq line (255 ∷ 254 ∷ [])
    || starts_with nat_eq line (254 ∷ 255 ∷ []) then ByteOrderMark
    else if ends_with nat_eq line (13 ∷ []) then CarriageReturn
    else if starts_with nat_eq line (codes "#") then Comment
    else (if nat_eq (length line) 0 then Empty else Words)

-- Why no node joins: the number, the word and the text of each refusal.
use Rattle.std.specs.Prelude.{ℕ, List, ◌++◌, codes}
use Rattle.hlc_clock.specs.Stamp.{stamp_text}
use Rattle.hlc_heads.specs.declared.heads.JoinFault.{JoinFault, TheVariants.TooManyNodes, TheVariants.BelowFloor}

-- the number of a refusal to let a node join
abbrev pub join_code : JoinFault → ℕ
join_code TooManyNodes = 26
join_code (BelowFloor floor) = 9

-- the word of the floor in it, 0 if there is none
abbrev pub join_word : JoinFault → ℕ
join_word TooManyNodes = 0
join_word (BelowFloor floor) = floor

-- its text
abbrev pub join_text : JoinFault → List ℕ
join_text TooManyNodes = codes "all 1,024 node numbers are in use"
join_text (BelowFloor floor) = codes "the start is below the floor, " ++ stamp_text floor

-- The refusals of a link: the number, the word and the text of each.
use Rattle.std.specs.Prelude.{ℕ, List, ◌++◌, codes, decimal}
use Rattle.hlc_clock.specs.Stamp.{stamp_text}
use Rattle.hlc_intake.specs.declared.intake.LinkFault.{LinkFault}
use Rattle.hlc_intake.specs.declared.intake.LinkFault.TheVariants.{Retired, NotNext, NumbersSpent, StampNotRising}

-- the number of a refusal
abbrev pub link_code : LinkFault → ℕ
link_code Retired = 27
link_code (NotNext next) = 6
link_code NumbersSpent = 14
link_code (StampNotRising head) = 7

-- the next number or the word of the head in it, 0 if there is neither
abbrev pub link_word : LinkFault → ℕ
link_word Retired = 0
link_word (NotNext next) = next
link_word NumbersSpent = 0
link_word (StampNotRising head) = head

-- its text
abbrev pub link_text : LinkFault → List ℕ
link_text Retired = codes "the node has retired"
link_text (NotNext next) = codes "the next item of the node is number " ++ decimal next
link_text NumbersSpent = codes "no item number is left"
link_text (StampNotRising head) = codes "the stamp is not above that of the last item, " ++ stamp_text head

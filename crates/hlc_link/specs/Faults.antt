-- The text of a refusal to put an item.
use Rattle.std.specs.Prelude.{ℕ, List, codes}
use Rattle.hlc_link.specs.declared.ends.PutFault.{PutFault, TheVariants.NumbersSpent, TheVariants.Closed}

abbrev pub put_text : PutFault → List ℕ
put_text NumbersSpent = codes "2^60 items were put already"
put_text Closed = codes "the link is closed"

-- The refusals of an item's body: the number and the text of each.
use Rattle.std.specs.Prelude.{ℕ, List, codes}
use Rattle.hlc_rows.specs.declared.limits.BodyFault.{BodyFault}
use Rattle.hlc_rows.specs.declared.limits.BodyFault.TheVariants.{BadKey, ValueTooLong, NoWrites, TooManyWrites}
use Rattle.hlc_rows.specs.declared.limits.BodyFault.TheVariants.{KeyTwice}

-- the number of a refusal of a body
abbrev pub body_code : BodyFault → ℕ
body_code BadKey = 12
body_code ValueTooLong = 13
body_code NoWrites = 28
body_code TooManyWrites = 29
body_code KeyTwice = 30

-- its text
abbrev pub body_text : BodyFault → List ℕ
body_text BadKey = codes "the key is empty or longer than 255 bytes"
body_text ValueTooLong = codes "the value is longer than 65,535 bytes"
body_text NoWrites = codes "the batch has no writes"
body_text TooManyWrites = codes "the batch has more than 256 writes"
body_text KeyTwice = codes "the batch writes a key twice"

-- The body of an item over slices.
use Rattle.std.specs.Prelude.{◌≡◌, ◌⊎◌, option_copied}
use Rattle.hlc_node.specs.declared.{item.Body.Body, item_ref.BodyRef.BodyRef}
use Rattle.hlc_node.specs.declared.item_ref.BodyRef.TheVariants.{Write, Batch, Report, Retire}
use Rattle.hlc_node.specs.declared.item_ref.Content.{Content, TheVariants.Nothing, TheVariants.One, TheVariants.Many}
use Rattle.hlc_node.specs.declared.item.Body.TheVariants as a_body

-- the body whose keys and values are in these slices
abbrev pub body_seen : BodyRef → Body
body_seen (Write key value) = a_body.Write key.now (option_copied value)
body_seen (Batch writes) = a_body.Batch writes
body_seen Report = a_body.Report
body_seen Retire = a_body.Retire

-- a body with this content writes these keys and values, and no others
abbrev pub IsContent : Content → Body → Type 0
IsContent Nothing body = (body ≡ a_body.Report) ⊎ (body ≡ a_body.Retire)
IsContent (One write) body = body ≡ a_body.Write write.key.now (option_copied write.value)
IsContent (Many writes) body = body ≡ a_body.Batch writes

-- Replies of which a copy takes no memory.
use Rattle.std.specs.Prelude.{⊤, Some}
use Rattle.hlc_world.specs.declared.reply.Reply.{Reply, TheVariants.Answer, TheVariants.Listing, TheVariants.Vacuumed}

-- the reply has no value, listing or report
abbrev pub IsPlainReply : Reply → Type 0
IsPlainReply (Answer (Some value)) = ⊥
IsPlainReply (Listing pairs) = ⊥
IsPlainReply (Vacuumed report) = ⊥
IsPlainReply _ = ⊤

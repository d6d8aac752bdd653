-- The machine values of a reader's room, and of what is in it. Assumes `Logic`.
use Rattle.std.proofs.Common.{[], ◌∷◌}
use seplogic.Ra.Ura.{Ura}
use base.Logic.{ent, never, id⊢}
use types.{Logic.Logic, Logic.sem, Kit.‵, Kit.◌$◌, Kit.◌∵◌, Kit.!, Kit.qed, Kit.by, Kit.keep, Kit.move, Kit.fsplit}
use denote.{RattleType.RattleType, RawPtr.null_ptr}
use Rattle.hlc_handle.specs.Lent.{Loan, lent_owns}

-- nobody reads what lies at null
pub nowhere : {M : Type 1} {𝓤 : Ura M} (𝓛 : Logic 𝓤) (R : RattleType) (loan : Loan R)
    → ent 𝓤 (sem 𝓛 (lent_owns R null_ptr loan)) (never 𝓤)
nowhere {𝓤 = 𝓤} 𝓛 R loan =
    qed 𝓛 (‵ (lent_owns R null_ptr loan) ∷ []) ∵
    fsplit ! $ move ! (1 ∷ []) $ fsplit ! $ keep ! (0 ∷ []) $ by ! (id⊢ 𝓤 (never 𝓤))

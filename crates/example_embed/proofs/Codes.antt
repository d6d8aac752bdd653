-- The number of a refusal is that of the first reason, or 15.
use Rattle.std.proofs.Common.{ap, inl, inr, refl, subst, sym, Option}
use Rattle.hlc.specs.Store.{IsRefusal, core_code, CoreFault}
use Rattle.example_embed.specs.Fed.{IsCodeOf}

pub code_of_refusal : (expected : Option CoreFault) (MayGrow : Type 0) (fault : CoreFault)
    → IsRefusal expected MayGrow fault
    → IsCodeOf expected MayGrow (core_code fault)
code_of_refusal expected MayGrow fault (inl is) =
    subst (λ (d : Option CoreFault). IsCodeOf d MayGrow (core_code fault)) (sym is) refl
code_of_refusal expected MayGrow fault (inr (none, shortage, may)) =
    subst (λ (d : Option CoreFault). IsCodeOf d MayGrow (core_code fault)) (sym none) (ap core_code shortage, may)

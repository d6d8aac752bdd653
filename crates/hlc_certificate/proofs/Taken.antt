-- An input that is in memory was taken whole and is answered, and no end of a check is a failed write.
use Rattle.std.proofs.Common.{◌≡◌, ◌≤◌, ℕ, List, length, refl, subst}
use Rattle.hlc_text.specs.declared.input.TheConstants.{INPUT_LIMIT}
use Rattle.hlc_certificate.specs.declared.check.CheckEnd.{CheckEnd, TheVariants.NotLoaded, TheVariants.WriteFault}
use Rattle.hlc_certificate.specs.Check.{MayTake, MayEnd, MayAnswer}

pub check_takes_all : (input : List ℕ) (end : CheckEnd) → MayEnd input end → MayTake input input end
check_takes_all input (NotLoaded fault) may = absurd may
check_takes_all input WriteFault may = absurd may
check_takes_all input _ may = refl

-- so an input within the limit is answered
pub check_answers : (input : List ℕ) (end : CheckEnd) → length input ≤ INPUT_LIMIT → MayEnd input end
    → MayAnswer input end
check_answers input (NotLoaded fault) fits may = absurd may
check_answers input WriteFault fits may = absurd may
check_answers input _ fits may = (fits, may)

pub check_not_cut : (input : List ℕ) (end : CheckEnd) → MayAnswer input end → end ≡ WriteFault → ⊥
check_not_cut input end may is = subst (MayAnswer input) is may

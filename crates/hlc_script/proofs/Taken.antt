-- An input that is in memory was taken whole, and no end of a run is a failed write.
use Rattle.std.proofs.Common.{◌≡◌, ℕ, List, refl, subst}
use Rattle.hlc_script.specs.{declared.run.RunEnd.RunEnd, Run.MayTake, Run.InputWasLoaded, Run.MayWrite}
use Rattle.hlc_script.specs.declared.run.RunEnd.TheVariants.{Answered, BadLine, BadHeader, NoMemory, NotLoaded}
use Rattle.hlc_script.specs.declared.run.RunEnd.TheVariants.{WriteFault}

pub run_takes_all : (input : List ℕ) (end : RunEnd) → InputWasLoaded end → MayTake input input end
run_takes_all input Answered loaded = refl
run_takes_all input (BadLine number) loaded = refl
run_takes_all input BadHeader loaded = refl
run_takes_all input NoMemory loaded = refl
run_takes_all input (NotLoaded fault) loaded = absurd loaded
run_takes_all input WriteFault loaded = absurd loaded

pub run_not_cut : (input output : List ℕ) (end : RunEnd) → MayWrite input output end → end ≡ WriteFault → ⊥
run_not_cut input output end may is = subst (MayWrite input output) is may

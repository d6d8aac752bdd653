-- An input has one output.
use Rattle.std.specs.Prelude.{◌≡◌, ◌≢◌, ℕ, List, ◌++◌, ◌⊎◌, codes, flat_map}
use Rattle.hlc_text.specs.{Text.printed, declared.input.InputFault.TheVariants.ReadFault}
use Rattle.hlc_script.specs.{declared.run.RunEnd.RunEnd, declared.run.RunEnd.TheVariants.NotLoaded, Run.MayWrite}

-- one of its lines is `refused 15`
abbrev pub ReportsNoMemory : List ℕ → Type 0
ReportsNoMemory output =
    (before : List (List ℕ)) × (after : List ℕ)
    × (output ≡ flat_map printed before ++ (printed (codes "refused 15") ++ after))

-- two outputs that one input may have are equal, and so are the ends of the runs; or one of them reports out of memory
abbrev pub OneOutput : Type 0
OneOutput = (input output other : List ℕ) (end finish : RunEnd)
    → MayWrite input output end → MayWrite input other finish → end ≢ NotLoaded ReadFault → finish ≢ NotLoaded ReadFault
    → ((output ≡ other) × (end ≡ finish)) ⊎ (ReportsNoMemory output ⊎ ReportsNoMemory other)

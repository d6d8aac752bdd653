-- A line that is printed in two parts, of which the second one ends it.
use Rattle.std.proofs.Common.{ℕ, List, [], ◌∷◌, ◌++◌, Option, sym, subst, append_assoc}
use Rattle.hlc_text.specs.{declared.printer.Printer.Printer, Printing.Prints, Text.printed}
use Rattle.hlc_text.proofs.PrintLemmas.{printed_then}

pub line_then : {W : Type 0} {contents : W → Option (List ℕ)} {old mid new : Printer W} {xs : List ℕ} (ys : List ℕ)
    → Prints contents old mid xs → Prints contents mid new (printed ys) → Prints contents old new (printed (xs ++ ys))
line_then {W} {contents} {old} {mid} {new} {xs} ys first second =
    subst (λ (zs : List ℕ). Prints contents old new zs) (sym (append_assoc xs ys (10 ∷ []))) (printed_then first second)

-- The lines of the nodes are printed one by one: one more count adds one more line, numbered by how many there were.
use Rattle.std.proofs.Common.{◌≡◌, ℕ, ◌+◌, ◌<◌, get_or, ◌∙◌, sym, ap, subst, arith, List, [], ◌∷◌, ◌++◌, take, length}
use Rattle.std.proofs.Common.{Option, append-nil, flat_map, length-take-le}
use Rattle.std.proofs.lemmas.List.{take_more, Concat.flat_map-append}
use Rattle.hlc_text.specs.{Text.printed, Printing.Prints, declared.printer.Printer.Printer}
use Rattle.hlc_text.proofs.PrintLemmas.{printed_then}
use Rattle.hlc_storm_report.specs.Printed.{accepted_line, accepted_lines}

lines_more : (node : ℕ) (xs : List ℕ) (x : ℕ)
    → accepted_lines node (xs ++ x ∷ []) ≡ accepted_lines node xs ++ accepted_line (node + length xs) x ∷ []
lines_more node [] x = ap (λ n. accepted_line n x ∷ []) (let e : node ≡ node + 0 = omega arith in e)
lines_more node (y ∷ ys) x =
    ap (λ l. accepted_line node y ∷ l) (lines_more (node + 1) ys x
    ∙ ap (λ n. accepted_lines (node + 1) ys ++ accepted_line n x ∷ [])
    (let e : node + 1 + length ys ≡ node + length (y ∷ ys) = omega arith in e))

text_more : (xs : List ℕ) (i d : ℕ) → i < length xs → flat_map printed (accepted_lines 0 (take (i + 1) xs))
    ≡ flat_map printed (accepted_lines 0 (take i xs)) ++ printed (accepted_line i (get_or xs i d))
text_more xs i d within =
    let lines : accepted_lines 0 (take (i + 1) xs)
    ≡ accepted_lines 0 (take i xs) ++ accepted_line i (get_or xs i d) ∷ [] =
    ap (accepted_lines 0) (take_more xs i d within) ∙ lines_more 0 (take i xs) (get_or xs i d)
    ∙ ap (λ n. accepted_lines 0 (take i xs) ++ accepted_line n (get_or xs i d) ∷ [])
    (let taken = length-take-le i xs (omega (arith, within)) in
    let e : 0 + length (take i xs) ≡ i = omega (arith, taken) in e) in
    ap (flat_map printed) lines
    ∙ flat_map-append printed (accepted_lines 0 (take i xs)) (accepted_line i (get_or xs i d) ∷ [])
    ∙ ap (λ l. flat_map printed (accepted_lines 0 (take i xs)) ++ l)
    (append-nil (printed (accepted_line i (get_or xs i d))))

pub counted_more : {W : Type 0} {contents : W → Option (List ℕ)} {old mid new : Printer W} (xs : List ℕ) (i d : ℕ)
    → i < length xs
    → Prints contents old mid (flat_map printed (accepted_lines 0 (take i xs)))
    → Prints contents mid new (printed (accepted_line i (get_or xs i d)))
    → Prints contents old new (flat_map printed (accepted_lines 0 (take (i + 1) xs)))
counted_more {W} {contents} {old} {mid} {new} xs i d within first second =
    subst (λ (zs : List ℕ). Prints contents old new zs) (sym (text_more xs i d within)) (printed_then first second)

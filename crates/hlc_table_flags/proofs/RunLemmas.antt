-- The first flags of a run, and the others, are runs. Each is shown by going through the flags that are set.
use Rattle.std.proofs.Common.{◌≡◌, ◌≤◌, ◌<◌, ◌+◌, ◌-◌, ◌∙◌, ◌∷◌, ◌++◌, ℕ, zero, suc, Bool, true, false, List, ap, ap₂}
use Rattle.std.proofs.Common.{arith, take, drop, replicate}
use Rattle.std.proofs.lemmas.List.{take-replicate, drop-replicate}

-- a number of set flags, then a number of unset ones
abbrev pub run : ℕ → ℕ → List Bool
run set unset = replicate set true ++ replicate unset false

pub run_take : (set unset count first others : ℕ) → first + others ≡ count → first ≤ set → others ≤ unset
    → (first < set → others ≡ 0) → take count (run set unset) ≡ run first others
run_take zero unset count zero others e le few none =
    let n : count ≡ others = omega (arith, e) in
    ap (λ n. take n (replicate unset false)) n ∙ take-replicate others unset false few
run_take (suc set) unset zero zero others e le few none =
    let n : 0 ≡ others = omega (arith, e) in ap (λ n. replicate n false) n
run_take (suc set) unset (suc count) zero others e le few none =
    let n = none (omega arith) in absurd (omega (arith, e, n))
run_take zero unset count (suc first) others e le few none = absurd (omega (arith, le))
run_take (suc set) unset zero (suc first) others e le few none = absurd (omega (arith, e))
run_take (suc set) unset (suc count) (suc first) others e le few none =
    ap (λ flags. true ∷ flags)
    (run_take set unset count first others (omega (arith, e)) (omega (arith, le)) few
    (λ lt. none (omega (arith, lt))))

pub run_drop : (set unset count first others : ℕ) → first + others ≡ count → first ≤ set → others ≤ unset
    → (first < set → others ≡ 0) → drop count (run set unset) ≡ run (set - first) (unset - others)
run_drop zero unset count zero others e le few none =
    let n : count ≡ others = omega (arith, e) in
    let z : 0 ≡ 0 - 0 = omega arith in
    ap (λ n. drop n (replicate unset false)) n ∙ drop-replicate others unset false ∙ ap (λ s. run s (unset - others)) z
run_drop (suc set) unset zero zero others e le few none =
    let s : suc set ≡ suc set - 0 = omega arith in
    let u : unset ≡ unset - others = omega (arith, e) in
    ap₂ (λ s u. run s u) s u
run_drop (suc set) unset (suc count) zero others e le few none =
    let n = none (omega arith) in absurd (omega (arith, e, n))
run_drop zero unset count (suc first) others e le few none = absurd (omega (arith, le))
run_drop (suc set) unset zero (suc first) others e le few none = absurd (omega (arith, e))
run_drop (suc set) unset (suc count) (suc first) others e le few none =
    let s : set - first ≡ suc set - suc first = omega arith in
    run_drop set unset count first others (omega (arith, e)) (omega (arith, le)) few
    (λ lt. none (omega (arith, lt))) ∙ ap (λ s. run s (unset - others)) s

-- An input has one answer: its lines say one certificate, which is valid or has one first reason, and no good line is a
-- bad one.
use Rattle.std.proofs.Common.{◌≡◌, ℕ, ◌+◌, ◌∙◌, sym, ap, ap₂, refl, subst, List, [], ◌∷◌, ◌++◌, length, All}
use Rattle.std.proofs.Common.{append_assoc, arith, ◌⊎◌, inl, inr}
use Rattle.hlc_rows.specs.declared.row.Row.{Row as ARow}
use Rattle.hlc_witness.specs.declared.{witness.Witness.Witness as AWitness, reason.NotShown.NotShown as AReason}
use Rattle.hlc_witness.specs.{Changes.ChangesAscend, Changes.IsChange, Certificate.IsCertificate, Cost.rows_cost}
use Rattle.hlc_witness.specs.Reasons.{IsFault, IsFirstFault, IsFirstReason, Unless}
use Rattle.hlc_witness.proofs.FaultLemmas.{changes_no_fault}
use Rattle.hlc_certificate.specs.declared.check.CheckEnd.TheVariants.{Fewest, NotShown, BadLine, NoMemory, NotLoaded}
use Rattle.hlc_certificate.specs.declared.check.CheckEnd.TheVariants.{WriteFault}
use Rattle.hlc_certificate.specs.{declared.check.CheckEnd.CheckEnd, OneAnswer.OneAnswer}
use Rattle.hlc_text.specs.declared.input.InputFault.TheVariants.{NoMemory as no_memory, ReadFault, TooLong}
use Rattle.hlc_text.specs.Lines.{lines_of}
use Rattle.hlc_certificate.specs.CheckLine.{AreLinesOf, AreGoodLines, IsFirstBadLine}
use Rattle.hlc_certificate.specs.Check.{ShowsFewest, ShowsReason, MayEnd}
use Rattle.hlc_certificate.proofs.{OneCertificate.one_certificate, SaidInOrder.good_front}

-- Two places in a list are equal, or the first is before the second, or after it.
abbrev Places : {X : Type 0} → List X → X → List X → X → Type 0
Places {X} front x other y =
    ((front ≡ other) × (x ≡ y))
    ⊎ (((mid : List X) × (other ≡ front ++ x ∷ mid)) ⊎ ((mid : List X) × (front ≡ other ++ y ∷ mid)))

further : {X : Type 0} (z : X) (front other : List X) (x y : X) → Places front x other y
    → Places (z ∷ front) x (z ∷ other) y
further z front other x y (inl same) = inl (ap (λ l. z ∷ l) same.0, same.1)
further z front other x y (inr (inl before)) = inr (inl (before.0, ap (λ l. z ∷ l) before.1))
further z front other x y (inr (inr after)) = inr (inr (after.0, ap (λ l. z ∷ l) after.1))

places : {X : Type 0} (front other : List X) (x y : X) (back rest : List X) → front ++ x ∷ back ≡ other ++ y ∷ rest
    → Places front x other y
places [] [] x y back rest same = let e : x ≡ y = cc in inl (refl, e)
places [] (z ∷ other) x y back rest same = let e : x ≡ z = cc in inr (inl (other, ap (λ w. w ∷ other) (sym e)))
places (z ∷ front) [] x y back rest same = let e : z ≡ y = cc in inr (inr (front, ap (λ w. w ∷ front) e))
places {X} (z ∷ front) (u ∷ other) x y back rest same =
    let first : z ≡ u = cc in
    let more : front ++ x ∷ back ≡ other ++ y ∷ rest = cc in
    subst (λ (w : X). Places (z ∷ front) x (w ∷ other) y) first
    (further z front other x y (places front other x y back rest more))

-- where each of two choices has one reason, so has what is chosen
unless_one : {condition now later now2 later2 : Type 0} {reason other : AReason} → Unless condition now later
    → Unless condition now2 later2 → (now → now2 → reason ≡ other) → (later → later2 → reason ≡ other)
    → reason ≡ other
unless_one (inl first) (inl also) now later = now first.1 also.1
unless_one (inl first) (inr also) now later = absurd (first.0 also.0)
unless_one (inr first) (inl also) now later = absurd (also.0 first.0)
unless_one (inr first) (inr also) now later = later first.1 also.1

both : {reason other one : AReason} → reason ≡ one → other ≡ one → reason ≡ other
both is also = is ∙ sym also

-- there is only one first fault
one_fault : (rows : List ARow) (points : List ℕ) (witnesses : List AWitness) (reason other : AReason)
    → IsFirstFault rows points witnesses reason → IsFirstFault rows points witnesses other → reason ≡ other
one_fault rows points witnesses reason other first also =
    elim
    (places first.front also.front first.witness also.witness first.back also.back (sym first.order ∙ also.order)) [
      | inl same ↦
          let F : List AWitness → Type 0 = λ (l : List AWitness). IsFault rows points l first.witness reason in
          let G : AWitness → Type 0 = λ (w : AWitness). IsFault rows points also.front w reason in
          unless_one (subst G same.1 (subst F same.0 first.fault)) also.fault both
          (λ first also. unless_one first also both (λ first also. both first.1 also.1))
      | inr (inl before) ↦ absurd
          (changes_no_fault rows points also.front first.front before.0 first.witness reason before.1 also.ascend
          also.each first.fault)
      | inr (inr after) ↦ absurd
          (changes_no_fault rows points first.front also.front after.0 also.witness other after.1 first.ascend
          first.each also.fault)
    ]

-- nor is there a first fault among changes, ascending
no_fault : {rows : List ARow} {points : List ℕ} {witnesses : List AWitness} {reason : AReason}
    → IsFirstFault rows points witnesses reason → ChangesAscend witnesses → All (IsChange rows points) witnesses → ⊥
no_fault {rows} {points} {witnesses} {reason} first up each =
    changes_no_fault rows points witnesses first.front first.back first.witness reason first.order up each first.fault

-- there is only one first reason
one_reason : (rows : List ARow) (points : List ℕ) (witnesses : List AWitness) (reason other : AReason)
    → IsFirstReason rows points witnesses reason → IsFirstReason rows points witnesses other → reason ≡ other
one_reason rows points witnesses reason other first also =
    unless_one first also both (λ first also. unless_one first also both
    (λ first also. unless_one first also both (λ first also. elim first [
      | inl found ↦ elim also [
        | inl found2 ↦ one_fault rows points witnesses reason other found found2
        | inr more ↦ absurd (no_fault found more.0 more.1)
      ]
      | inr more ↦ elim also [
        | inl found ↦ absurd (no_fault found more.0 more.1)
        | inr more2 ↦ unless_one more.2 more2.2 both (λ first also. both first.1 also.1)
      ]
    ])))

-- what is true of one certificate is true of the other
along : (P : List ARow → List ℕ → List AWitness → Type 0) (lines : List (List ℕ)) (points points2 : List ℕ)
    (rows rows2 : List ARow) (witnesses witnesses2 : List AWitness) → AreLinesOf points rows witnesses lines
    → AreLinesOf points2 rows2 witnesses2 lines → P rows points witnesses → P rows2 points2 witnesses2
along P lines points points2 rows rows2 witnesses witnesses2 are also holds =
    let same = one_certificate lines points points2 rows rows2 witnesses witnesses2 are also in
    subst (λ (w : List AWitness). P rows2 points2 w) same.2
    (subst (λ (p : List ℕ). P rows2 p witnesses) same.0
    (subst (λ (r : List ARow). P r points witnesses) same.1 holds))

fewest_once : (lines : List (List ℕ)) (count other bytes cost : ℕ) → ShowsFewest lines count bytes
    → ShowsFewest lines other cost → Fewest count bytes ≡ Fewest other cost
fewest_once lines count other bytes cost is also =
    let same =
    one_certificate lines is.points also.points is.rows also.rows is.witnesses also.witnesses is.lines_are
    also.lines_are in
    ap₂ Fewest (is.count_is ∙ ap (λ (r : List ARow). length r) same.1 ∙ sym also.count_is)
    (is.bytes_is ∙ ap rows_cost same.1 ∙ sym also.bytes_is)

not_both : (lines : List (List ℕ)) (count bytes : ℕ) (reason : AReason) → ShowsFewest lines count bytes
    → ShowsReason lines reason → ⊥
not_both lines count bytes reason is also =
    also.refused
    (along IsCertificate lines is.points also.points is.rows also.rows is.witnesses also.witnesses is.lines_are
    also.lines_are is.certificate)

reason_once : (lines : List (List ℕ)) (reason other : AReason) → ShowsReason lines reason → ShowsReason lines other
    → reason ≡ other
reason_once lines reason other is also =
    let P : List ARow → List ℕ → List AWitness → Type 0 =
    λ (r : List ARow) (p : List ℕ) (w : List AWitness). IsFirstReason r p w reason in
    one_reason also.rows also.points also.witnesses reason other
    (along P lines is.points also.points is.rows also.rows is.witnesses also.witnesses is.lines_are also.lines_are
    is.first) also.first

-- a line that is bad after those before it is bad in all lists of lines that begin so
no_good : (front mid : List (List ℕ)) (line : List ℕ) (lines : List (List ℕ)) → lines ≡ front ++ line ∷ mid
    → (AreGoodLines (front ++ line ∷ []) → ⊥) → AreGoodLines lines → ⊥
no_good front mid line lines is bad good =
    bad (good_front (front ++ line ∷ []) mid (subst AreGoodLines (is ∙ sym (append_assoc front (line ∷ []) mid)) good))

bad_not_good : (lines : List (List ℕ)) (number : ℕ) → IsFirstBadLine lines number → AreGoodLines lines → ⊥
bad_not_good lines number first good = no_good first.front first.back first.line lines first.order first.bad good

bad_once : (lines : List (List ℕ)) (number other : ℕ) → IsFirstBadLine lines number → IsFirstBadLine lines other
    → number ≡ other
bad_once lines number other first also =
    elim (places first.front also.front first.line also.line first.back also.back (sym first.order ∙ also.order)) [
      | inl same ↦ first.count ∙ ap (λ (l : List (List ℕ)). length l + 1) same.0 ∙ sym also.count
      | inr (inl before) ↦ absurd (no_good first.front before.0 first.line also.front before.1 first.bad also.good)
      | inr (inr after) ↦ absurd (no_good also.front after.0 also.line first.front after.1 also.bad first.good)
    ]

fewest_good : (lines : List (List ℕ)) (count bytes : ℕ) → ShowsFewest lines count bytes → AreGoodLines lines
fewest_good lines count bytes is = (is.points, is.rows, is.witnesses, is.lines_are)

reason_good : (lines : List (List ℕ)) (reason : AReason) → ShowsReason lines reason → AreGoodLines lines
reason_good lines reason is = (is.points, is.rows, is.witnesses, is.lines_are)

-- lines that show this many rows to be the fewest have no other end, except out of memory
pub ends_fewest : (text : List ℕ) (count bytes : ℕ) (end : CheckEnd) → ShowsFewest (lines_of text) count bytes
    → MayEnd text end → (end ≡ Fewest count bytes) ⊎ (end ≡ NoMemory)
ends_fewest text count bytes (Fewest n k) is may = inl (fewest_once (lines_of text) n count k bytes may is)
ends_fewest text count bytes (NotShown q) is may = absurd (not_both (lines_of text) count bytes q is may)
ends_fewest text count bytes (BadLine n) is may =
    absurd (bad_not_good (lines_of text) n may (fewest_good (lines_of text) count bytes is))
ends_fewest text count bytes NoMemory is may = inr refl
ends_fewest text count bytes _ is may = absurd may

pub one_answer : OneAnswer
one_answer input (NotLoaded no_memory) finish is also e f = inr (inl refl)
one_answer input NoMemory finish is also e f = inr (inl refl)
one_answer input (NotLoaded ReadFault) finish is also e f = absurd (e refl)
one_answer input WriteFault finish is also e f = absurd is
one_answer input end (NotLoaded no_memory) is also e f = inr (inr refl)
one_answer input end NoMemory is also e f = inr (inr refl)
one_answer input end (NotLoaded ReadFault) is also e f = absurd (f refl)
one_answer input end WriteFault is also e f = absurd also
one_answer input (Fewest m b) (Fewest n k) is also e f =
    inl (fewest_once (lines_of input) m n b k is.1 also.1)
one_answer input (Fewest m b) (NotShown q) is also e f = absurd (not_both (lines_of input) m b q is.1 also.1)
one_answer input (Fewest m b) (BadLine n) is also e f =
    absurd (bad_not_good (lines_of input) n also.1 (fewest_good (lines_of input) m b is.1))
one_answer input (NotShown r) (Fewest n k) is also e f = absurd (not_both (lines_of input) n k r also.1 is.1)
one_answer input (NotShown r) (NotShown q) is also e f =
    inl (ap NotShown (reason_once (lines_of input) r q is.1 also.1))
one_answer input (NotShown r) (BadLine n) is also e f =
    absurd (bad_not_good (lines_of input) n also.1 (reason_good (lines_of input) r is.1))
one_answer input (BadLine m) (Fewest n k) is also e f =
    absurd (bad_not_good (lines_of input) m is.1 (fewest_good (lines_of input) n k also.1))
one_answer input (BadLine m) (NotShown q) is also e f =
    absurd (bad_not_good (lines_of input) m is.1 (reason_good (lines_of input) q also.1))
one_answer input (BadLine m) (BadLine n) is also e f = inl (ap BadLine (bad_once (lines_of input) m n is.1 also.1))
one_answer input (NotLoaded TooLong) (NotLoaded TooLong) is also e f = inl refl
one_answer input (NotLoaded TooLong) _ is also e f = absurd (omega (arith, is, also.0))
one_answer input _ (NotLoaded TooLong) is also e f = absurd (omega (arith, is.0, also))

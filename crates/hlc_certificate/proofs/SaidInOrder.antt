-- Good lines are those of what is said in order: points, then rows, and then witnesses. So the first ones of some good
-- lines are good.
use Rattle.std.proofs.Common.{◌≡◌, ℕ, ◌<◌, ◌≤◌, ap, refl, subst, List, [], ◌∷◌, ◌++◌, map, length, arith}
use Rattle.std.specs.List.{AllByRecursion}
use Rattle.hlc_rows.specs.declared.row.Row.{Row as ARow}
use Rattle.hlc_witness.specs.declared.witness.Witness.{Witness as AWitness}
use Rattle.hlc_certificate.specs.declared.check_line.CheckLine.{CheckLine}
use Rattle.hlc_certificate.specs.declared.check_line.CheckLine.TheVariants.{Point, Row, Witness}
use Rattle.hlc_certificate.specs.CheckLine.{check_line, HasCheckLine, section_of, all_said, AreLinesOf, AreGoodLines}
use Rattle.hlc_certificate.proofs.OneCertificate.{points_in, rows_in, witnesses_in}

-- nothing belongs to an earlier section than this
abbrev pub NoneEarlier : ℕ → List CheckLine → Type 0
NoneEarlier section says = AllByRecursion (λ x. section ≤ section_of x) says

-- nothing belongs to a later section than this
abbrev pub NoneLater : ℕ → List CheckLine → Type 0
NoneLater section says = AllByRecursion (λ x. section_of x ≤ section) says

-- nothing is followed by something of an earlier section
abbrev pub InOrder : List CheckLine → Type 0
InOrder [] = Unit {0}
InOrder (x ∷ says) = NoneEarlier (section_of x) says × InOrder says

-- ---- all that is said is in order

none_before : (says : List CheckLine) → NoneEarlier 0 says
none_before [] = tt
none_before (x ∷ says) = (omega arith, none_before says)

none_before_rows : (rows : List ARow) (witnesses : List AWitness) → NoneEarlier 1 (all_said [] rows witnesses)
none_before_rows [] [] = tt
none_before_rows [] (w ∷ witnesses) = (omega arith, none_before_rows [] witnesses)
none_before_rows (r ∷ rows) witnesses = (omega arith, none_before_rows rows witnesses)

none_before_witnesses : (witnesses : List AWitness) → NoneEarlier 2 (all_said [] [] witnesses)
none_before_witnesses [] = tt
none_before_witnesses (w ∷ witnesses) = (omega arith, none_before_witnesses witnesses)

said_in_order : (points : List ℕ) (rows : List ARow) (witnesses : List AWitness)
    → InOrder (all_said points rows witnesses)
said_in_order [] [] [] = tt
said_in_order [] [] (w ∷ witnesses) = (none_before_witnesses witnesses, said_in_order [] [] witnesses)
said_in_order [] (r ∷ rows) witnesses = (none_before_rows rows witnesses, said_in_order [] rows witnesses)
said_in_order (p ∷ points) rows witnesses = (none_before _, said_in_order points rows witnesses)

-- ---- and what is in order is said by lists

no_points : (section : ℕ) (says : List CheckLine) → 0 < section → NoneEarlier section says → points_in says ≡ []
no_points section [] up later = refl
no_points section (Point stamp ∷ says) up later = absurd (omega (arith, later.0))
no_points section (_ ∷ says) up later = no_points section says up later.1

no_rows : (says : List CheckLine) → NoneEarlier 2 says → rows_in says ≡ []
no_rows [] later = refl
no_rows (Witness key before at ∷ says) later = no_rows says later.1
no_rows (_ ∷ says) later = absurd (omega (arith, later.0))

in_order_said : (says : List CheckLine) → InOrder says
    → says ≡ all_said (points_in says) (rows_in says) (witnesses_in says)
in_order_said [] order = refl
in_order_said (Point stamp ∷ says) order = ap (λ l. Point stamp ∷ l) (in_order_said says order.1)
in_order_said (Row key stamp node value ∷ says) order =
    let none = no_points 1 says (omega arith) order.0 in
    let rest = rw none at (in_order_said says order.1) in
    rw none (ap (λ l. Row key stamp node value ∷ l) rest)
in_order_said (Witness key before at ∷ says) order =
    let none = no_points 2 says (omega arith) order.0 in
    let none' = no_rows says order.0 in
    let rest = rw (none, none') at (in_order_said says order.1) in
    rw (none, none') (ap (λ l. Witness key before at ∷ l) rest)

pub lines_in_order : (says : List CheckLine) (lines : List (List ℕ)) → InOrder says → AllByRecursion HasCheckLine says
    → lines ≡ map check_line says → AreLinesOf (points_in says) (rows_in says) (witnesses_in says) lines
lines_in_order says lines order has is =
    subst (λ l. AllByRecursion HasCheckLine l × (lines ≡ map check_line l)) (in_order_said says order) (has, is)

-- ---- good lines

pub all_front : (P : CheckLine → Type 0) (xs ys : List CheckLine) → AllByRecursion P (xs ++ ys) → AllByRecursion P xs
all_front P [] ys all = tt
all_front P (x ∷ xs) ys all = (all.0, all_front P xs ys all.1)

order_front : (xs ys : List CheckLine) → InOrder (xs ++ ys) → InOrder xs
order_front [] ys order = tt
order_front (x ∷ xs) ys order = (all_front (λ y. section_of x ≤ section_of y) xs ys order.0, order_front xs ys order.1)

-- what is said by the first ones of some lines, and by the others
parts : (front back : List (List ℕ)) (says : List CheckLine) → front ++ back ≡ map check_line says
    → (some more : List CheckLine) × (says ≡ some ++ more) × (front ≡ map check_line some)
    × (back ≡ map check_line more)
parts [] back says is = ([], says, refl, refl, is)
parts (line ∷ front) back [] is = absurd (omega (arith, ap length is))
parts (line ∷ front) back (x ∷ says) is =
    let one : line ≡ check_line x = cc in
    let others : front ++ back ≡ map check_line says = cc in
    let (some, more, order, first, rest) = parts front back says others in
    let both : line ∷ front ≡ check_line x ∷ map check_line some = cc in
    (x ∷ some, more, ap (λ l. x ∷ l) order, both, rest)

-- what good lines say in order, where they have two parts
pub good_parts : (front back : List (List ℕ)) → AreGoodLines (front ++ back)
    → (some more : List CheckLine) × InOrder (some ++ more) × AllByRecursion HasCheckLine (some ++ more)
    × (front ≡ map check_line some) × (back ≡ map check_line more)
good_parts front back (points, rows, witnesses, are) =
    let (some, more, order, first, rest) = parts front back (all_said points rows witnesses) are.1 in (
      some,
      more,
      subst InOrder order (said_in_order points rows witnesses),
      subst (AllByRecursion HasCheckLine) order are.0,
      first,
      rest,
    )

-- the first ones of some good lines are good
pub good_front : (front back : List (List ℕ)) → AreGoodLines (front ++ back) → AreGoodLines front
good_front front back good =
    let (some, more, order, has, first, rest) = good_parts front back good in (
      points_in some,
      rows_in some,
      witnesses_in some,
      lines_in_order some front (order_front some more order)
          (all_front HasCheckLine some more has) first,
    )

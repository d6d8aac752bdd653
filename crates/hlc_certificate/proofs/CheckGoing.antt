-- In the middle of a certificate: the lines so far say something in order, and the lists contain it, if memory did not
-- run out.
use Rattle.std.proofs.Common.{◌≡◌, ℕ, ◌+◌, ◌<◌, ◌≤◌, ◌∙◌, sym, ap, refl, subst, List, [], ◌∷◌, ◌++◌, length, map}
use Rattle.std.proofs.Common.{Option, Some, None, append_assoc, append-nil, arith, length-append, IfSome, IsSomeAnd}
use Rattle.std.specs.{Prelude.◌≢◌, List.AllByRecursion, List.flat_map}
use Rattle.std.proofs.lemmas.List.{map-append, length-map, Concat.flat_map-append}
use Rattle.hlc_certificate.specs.declared.{check_line.CheckLine.CheckLine, certificate.Certificate.Certificate}
use Rattle.hlc_certificate.specs.declared.check_line.CheckLine.TheVariants.{Point, Row, Witness}
use Rattle.hlc_text.specs.Lines.{lines_of}
use Rattle.hlc_certificate.specs.CheckLine.{check_line, HasCheckLine, section_of, AreLinesOf, IsFirstBadLine}
use Rattle.hlc_certificate.specs.CheckLine.{AreGoodLines}
use Rattle.hlc_certificate.specs.CheckLists.{HasLists, AddsLine}
use Rattle.hlc_certificate.proofs.OneCertificate.{point_in, row_in, witness_in, points_in, rows_in, witnesses_in}
use Rattle.hlc_certificate.proofs.OneCertificate.{same_lines}
use Rattle.hlc_certificate.proofs.SaidInOrder.{NoneLater, InOrder, all_front, lines_in_order, good_parts}

last_of_all : (P : CheckLine → Type 0) (xs : List CheckLine) (x : CheckLine) → AllByRecursion P (xs ++ x ∷ []) → P x
last_of_all P [] x all = all.0
last_of_all P (y ∷ xs) x all = last_of_all P xs x all.1

all_more : (P : CheckLine → Type 0) (xs : List CheckLine) (x : CheckLine) → AllByRecursion P xs → P x
    → AllByRecursion P (xs ++ x ∷ [])
all_more P [] x all more = (more, tt)
all_more P (y ∷ xs) x all more = (all.0, all_more P xs x all.1 more)

-- the last of all that is in order belongs to the latest section
none_later : (xs : List CheckLine) (x : CheckLine) → InOrder (xs ++ x ∷ []) → NoneLater (section_of x) xs
none_later [] x order = tt
none_later (y ∷ xs) x order =
    (last_of_all (λ z. section_of y ≤ section_of z) xs x order.0, none_later xs x order.1)

later_more : (xs : List CheckLine) (section latest : ℕ) → NoneLater section xs → section ≤ latest → NoneLater latest xs
later_more [] section latest none up = tt
later_more (x ∷ xs) section latest none up = (omega (arith, none.0), later_more xs section latest none.1 up)

order_more : (xs : List CheckLine) (x : CheckLine) → InOrder xs → NoneLater (section_of x) xs → InOrder (xs ++ x ∷ [])
order_more [] x order none = (tt, tt)
order_more (y ∷ xs) x order none =
    (all_more (λ z. section_of y ≤ section_of z) xs x order.0 none.0, order_more xs x order.1 none.1)

pub record Going (text rest : List ℕ) (number section : ℕ) (kept : Option Certificate) : Type 0 where
  pub says : List CheckLine
  pub has : AllByRecursion HasCheckLine says
  pub in_order : InOrder says
  pub low : NoneLater section says
  pub reached : (latest : ℕ) → NoneLater latest says → section ≤ latest
  pub order : lines_of text ≡ map check_line says ++ lines_of rest
  pub count : number ≡ length says + 1
  pub loaded : IfSome kept (λ certificate. HasLists certificate (points_in says) (rows_in says) (witnesses_in says))
  pub lost : kept ≡ None → 0 < length says

some_not_none : (certificate : Certificate) → Some certificate ≡ None → ⊥
some_not_none certificate same = cc

pub going_first : (text : List ℕ) (certificate : Certificate) → HasLists certificate [] [] []
    → Going text text 1 0 (Some certificate)
going_first text certificate empty = record {
  says = [];
  has = tt;
  in_order = tt;
  low = tt;
  reached = λ latest none. omega arith;
  order = refl;
  count = refl;
  loaded = empty;
  lost = λ none. absurd (some_not_none certificate none);
}

-- at the end the lists contain what the lines say
pub going_ok : (text rest : List ℕ) (number section : ℕ) (certificate : Certificate) → length rest ≡ 0
    → Going text rest number section (Some certificate)
    → AreLinesOf certificate.points.items certificate.rows.items certificate.witnesses.items (lines_of text)
going_ok text [] number section certificate none going =
    rw (going.loaded.points_are, going.loaded.rows_are, going.loaded.witnesses_are)
    (lines_in_order going.says (lines_of text) going.in_order going.has
    (going.order ∙ append-nil (map check_line going.says)))
going_ok text (byte ∷ rest) number section certificate none going = absurd (omega (arith, none))

-- or memory ran out, and there are lines, none of them bad
pub going_lost : (text rest : List ℕ) (number section : ℕ) → length rest ≡ 0 → Going text rest number section None
    → (0 < length (lines_of text)) × AreGoodLines (lines_of text)
going_lost text [] number section none going =
    let is : lines_of text ≡ map check_line going.says = going.order ∙ append-nil (map check_line going.says) in
    let long : length (lines_of text) ≡ length going.says = ap length is ∙ length-map going.says check_line in
    let some : 0 < length going.says = going.lost refl in (
      omega arith,
      (
        points_in going.says,
        rows_in going.says,
        witnesses_in going.says,
        lines_in_order going.says (lines_of text) going.in_order going.has is,
      ),
    )
going_lost text (byte ∷ rest) number section none going = absurd (omega (arith, none))

one_line : (more : List CheckLine) (line : List ℕ) → line ∷ [] ≡ map check_line more
    → (x : CheckLine) × (more ≡ x ∷ []) × (line ≡ check_line x)
one_line [] line is = absurd (omega (arith, ap length is))
one_line (x ∷ []) line is = (x, refl, (let same : line ≡ check_line x = cc in same))
one_line (x ∷ y ∷ more) line is = absurd (omega (arith, ap length is))

-- the first bad line: no line of its section or a later one
pub going_bad : (text rest after line : List ℕ) (number section : ℕ) (kept : Option Certificate)
    → Going text rest number section kept → lines_of rest ≡ line ∷ lines_of after
    → ((x : CheckLine) → HasCheckLine x × (section ≤ section_of x) → line ≢ check_line x)
    → IsFirstBadLine (lines_of text) number
going_bad text rest after line number section kept going first none = record {
  front = map check_line going.says;
  line = line;
  back = lines_of after;
  order = going.order ∙ ap (λ ls. map check_line going.says ++ ls) first;
  good = (
    points_in going.says,
    rows_in going.says,
    witnesses_in going.says,
    lines_in_order going.says (map check_line going.says) going.in_order going.has refl,
  );
  bad = λ good.
      let (some, more, order, has, front, last) = good_parts (map check_line going.says) (line ∷ []) good in
      let (x, alone, is) = one_line more line last in
      let order' = subst (λ l. InOrder (some ++ l)) alone order in
      let has' = subst (λ l. AllByRecursion HasCheckLine (some ++ l)) alone has in
      let same : some ≡ going.says =
      same_lines some going.says (all_front HasCheckLine some (x ∷ []) has') going.has (sym front) in
      let low = going.reached (section_of x) (subst (NoneLater (section_of x)) same (none_later some x order')) in
      none x (last_of_all HasCheckLine some x has', low) is;
  count = going.count ∙ ap (λ n. n + 1) (sym (length-map going.says check_line));
}

-- the lists contain what is said, if there are lists
loaded_more : (kept new : Option Certificate) (says : List CheckLine) (x : CheckLine)
    → IfSome kept (λ c. HasLists c (points_in says) (rows_in says) (witnesses_in says))
    → IfSome new (λ c. IsSomeAnd kept (λ old. AddsLine old c x))
    → IfSome new (λ c. HasLists c (points_in (says ++ x ∷ [])) (rows_in (says ++ x ∷ []))
    (witnesses_in (says ++ x ∷ [])))
loaded_more kept None says x loaded adds = tt
loaded_more None (Some c) says x loaded adds = absurd adds
loaded_more (Some old) (Some c) says x loaded adds =
    let points = flat_map-append point_in says (x ∷ []) in
    let rows = flat_map-append row_in says (x ∷ []) in
    let witnesses = flat_map-append witness_in says (x ∷ []) in
    rw (points, rows, witnesses) (one x adds)
  where
    one : (x : CheckLine) → AddsLine old c x
        → HasLists c (points_in says ++ flat_map point_in (x ∷ [])) (rows_in says ++ flat_map row_in (x ∷ []))
        (witnesses_in says ++ flat_map witness_in (x ∷ []))
    one (Point stamp) adds = record {
      points_are = adds.points_are ∙ ap (λ l. l ++ stamp ∷ []) loaded.points_are;
      rows_are = adds.rows_are ∙ loaded.rows_are ∙ sym (append-nil (rows_in says));
      witnesses_are = adds.witnesses_are ∙ loaded.witnesses_are ∙ sym (append-nil (witnesses_in says));
    }
    one (Row key stamp node value) adds = record {
      points_are = adds.points_are ∙ loaded.points_are ∙ sym (append-nil (points_in says));
      rows_are = adds.rows_are ∙ ap (λ l. l ++ row_in (Row key stamp node value)) loaded.rows_are;
      witnesses_are = adds.witnesses_are ∙ loaded.witnesses_are ∙ sym (append-nil (witnesses_in says));
    }
    one (Witness key before at) adds = record {
      points_are = adds.points_are ∙ loaded.points_are ∙ sym (append-nil (points_in says));
      rows_are = adds.rows_are ∙ loaded.rows_are ∙ sym (append-nil (rows_in says));
      witnesses_are = adds.witnesses_are ∙ ap (λ l. l ++ witness_in (Witness key before at)) loaded.witnesses_are;
    }

-- one more good line
pub going_more : (text rest after line : List ℕ) (number section : ℕ) (kept new : Option Certificate) (x : CheckLine)
    → Going text rest number section kept → lines_of rest ≡ line ∷ lines_of after → HasCheckLine x
    × (section ≤ section_of x) → line ≡ check_line x → IfSome new (λ c. IsSomeAnd kept (λ old. AddsLine old c x))
    → Going text after (number + 1) (section_of x) new
going_more text rest after line number section kept new x going first has is adds =
    let long = length-append going.says (x ∷ []) in
    let low = later_more going.says section (section_of x) going.low has.1 in
    record {
      says = going.says ++ x ∷ [];
      has = all_more HasCheckLine going.says x going.has has.0;
      in_order = order_more going.says x going.in_order low;
      low = all_more (λ y. section_of y ≤ section_of x) going.says x low (omega arith);
      reached = λ latest none. last_of_all (λ y. section_of y ≤ latest) going.says x none;
      order = going.order
          ∙ ap (λ ls. map check_line going.says ++ ls) (first ∙ ap (λ l. l ∷ lines_of after) is)
          ∙ sym (append_assoc (map check_line going.says) (check_line x ∷ []) (lines_of after))
          ∙ ap (λ ls. ls ++ lines_of after) (sym (map-append check_line going.says (x ∷ [])));
      count = omega (arith, going.count, long);
      loaded = loaded_more kept new going.says x going.loaded adds;
      lost = λ none. omega (arith, long);
    }

-- The text of a certificate is that of its points, of its rows and of its witnesses, one after another; and its lines
-- are those that were printed, since none of them contains a line feed.
use Rattle.std.proofs.Common.{◌≡◌, ℕ, ◌+◌, ◌<◌, ◌∙◌, sym, ap, refl, subst, eqb, List, [], ◌∷◌, ◌++◌, map, take, length}
use Rattle.std.proofs.Common.{get_or, Option, Some, None, append_assoc}
use Rattle.std.specs.List.{flat_map, slice_split, AllByRecursion}
use Rattle.std.proofs.lemmas.List.{map-append, take_more, Concat.flat_map-append}
use Rattle.hlc_text.specs.{Text.printed, Printing.Prints, Lines.spaced, Lines.lines_of}
use Rattle.hlc_text.specs.declared.printer.Printer.{Printer}
use Rattle.hlc_text.proofs.PrintLemmas.{printed_line, printed_then}
use Rattle.hlc_text.proofs.TokenLemmas.{line_has_no_feed, split_line}
use Rattle.hlc_text.proofs.LineLemmas.{first_of_lines}
use Rattle.hlc_rows.specs.declared.row.Row.{Row as ARow}
use Rattle.hlc_witness.specs.declared.witness.Witness.{Witness as AWitness}
use Rattle.hlc_certificate.{specs.declared.check_line.CheckLine.CheckLine, proofs.CheckLines.are_words}
use Rattle.hlc_certificate.specs.CheckLine.{check_words, check_line, HasCheckLine, value_words, says_point, says_row}
use Rattle.hlc_certificate.specs.CheckLine.{says_witness, all_said}
use Rattle.hlc_certificate.specs.CertificateText.{point_line, row_line, witness_line, certificate_text}

-- the lines of some items, printed
abbrev pub all_lines : {X : Type 0} → (X → List ℕ) → List X → List ℕ
all_lines line xs = flat_map printed (map line xs)

-- what each of some items says can be written as a line
abbrev pub AllHaveLines : {X : Type 0} → (X → CheckLine) → List X → Type 0
AllHaveLines says xs = AllByRecursion HasCheckLine (map says xs)

-- one more line of a list that is printed line by line
pub printed_next : {X W : Type 0} {contents : W → Option (List ℕ)} {old mid new : Printer W} (line : X → List ℕ)
    (xs : List X) (i : ℕ) (d : X) → i < length xs → d ≡ get_or xs i d
    → Prints contents old mid (all_lines line (take i xs))
    → Prints contents mid new (printed (line d)) → Prints contents old new (all_lines line (take (i + 1) xs))
printed_next {X} {W} {contents} {old} {mid} {new} line xs i d within is first second =
    printed_line printed line xs i d within first
    (subst (λ (x : X). Prints contents mid new (printed (line x))) is second)

all_both : {X : Type 0} (P : X → Type 0) (xs ys : List X) → AllByRecursion P xs → AllByRecursion P ys
    → AllByRecursion P (xs ++ ys)
all_both P [] ys first second = second
all_both P (x ∷ xs) ys first second = (first.0, all_both P xs ys first.1 second)

-- one more item, whose content can be written as a line
pub fits_next : {X : Type 0} (says : X → CheckLine) (xs : List X) (i : ℕ) (d : X) → i < length xs → d ≡ get_or xs i d
    → AllHaveLines says (take i xs) → HasCheckLine (says d) → AllHaveLines says (take (i + 1) xs)
fits_next {X} says xs i d within is first second =
    let item : take (i + 1) xs ≡ take i xs ++ d ∷ [] =
    take_more xs i d within ∙ ap (λ (x : X). take i xs ++ x ∷ []) (sym is) in
    let said : map says (take (i + 1) xs) ≡ map says (take i xs) ++ says d ∷ [] =
    ap (map says) item ∙ map-append says (take i xs) (d ∷ []) in
    subst (AllByRecursion HasCheckLine) (sym said) (all_both HasCheckLine _ _ first (second, tt))

-- all that is said can be written as lines
pub all_fit : (points : List ℕ) (rows : List ARow) (witnesses : List AWitness) → AllHaveLines says_point points
    → AllHaveLines says_row rows → AllHaveLines says_witness witnesses
    → AllByRecursion HasCheckLine (all_said points rows witnesses)
all_fit points rows witnesses first second third =
    let both = all_both HasCheckLine (map says_point points) (map says_row rows) first second in
    all_both HasCheckLine (map says_point points ++ map says_row rows) (map says_witness witnesses) both third

-- the line of a row, by its value
pub printed_row : {W : Type 0} {contents : W → Option (List ℕ)} {old new : Printer W} (key stamp node : List ℕ)
    (value : Option (List ℕ)) → Prints contents old new
    (printed ((114 ∷ 111 ∷ 119 ∷ 32 ∷ key) ++ ((32 ∷ stamp) ++ ((32 ∷ node) ++ (32 ∷ spaced (value_words value))))))
    → Prints contents old new (printed (spaced ((114 ∷ 111 ∷ 119 ∷ []) ∷ key ∷ stamp ∷ node ∷ value_words value)))
printed_row key stamp node None text = text
printed_row key stamp node (Some value) text = text

said_lines : {X : Type 0} (says : X → CheckLine) (xs : List X)
    → map check_line (map says xs) ≡ map (λ x. check_line (says x)) xs
said_lines says [] = refl
said_lines says (x ∷ xs) = ap (λ lines. check_line (says x) ∷ lines) (said_lines says xs)

said_text : {X : Type 0} (says : X → CheckLine) (xs : List X)
    → all_lines (λ x. check_line (says x)) xs ≡ all_lines check_line (map says xs)
said_text says xs = ap (flat_map printed) (sym (said_lines says xs))

text_append : (xs ys : List CheckLine)
    → all_lines check_line (xs ++ ys) ≡ all_lines check_line xs ++ all_lines check_line ys
text_append xs ys =
    ap (flat_map printed) (map-append check_line xs ys)
    ∙ flat_map-append printed (map check_line xs) (map check_line ys)

-- the text of the three lists is the text of all that is said
pub all_printed : (points : List ℕ) (rows : List ARow) (witnesses : List AWitness)
    → (all_lines point_line points ++ all_lines row_line rows) ++ all_lines witness_line witnesses
    ≡ certificate_text points rows witnesses
all_printed points rows witnesses =
    let p = map says_point points in
    let r = map says_row rows in
    let w = map says_witness witnesses in
    let last = all_lines witness_line witnesses in
    ap (λ (t : List ℕ). (t ++ all_lines row_line rows) ++ last) (said_text says_point points)
    ∙ ap (λ (t : List ℕ). (all_lines check_line p ++ t) ++ last) (said_text says_row rows)
    ∙ ap (λ (t : List ℕ). (all_lines check_line p ++ all_lines check_line r) ++ t) (said_text says_witness witnesses)
    ∙ ap (λ (t : List ℕ). t ++ all_lines check_line w) (sym (text_append p r))
    ∙ sym (text_append (p ++ r) w)

-- the three lists are printed one after another
pub printed_lists : {W : Type 0} {contents : W → Option (List ℕ)} {old with_points with_rows new : Printer W}
    (points : List ℕ) (rows : List ARow) (witnesses : List AWitness)
    → Prints contents old with_points (all_lines point_line points)
    → Prints contents with_points with_rows (all_lines row_line rows)
    → Prints contents with_rows new (all_lines witness_line witnesses)
    → Prints contents old new (certificate_text points rows witnesses)
printed_lists {W} {contents} {old} {with_points} {with_rows} {new} points rows witnesses first second third =
    let all = printed_then (printed_then first second) third in
    subst (λ (t : List ℕ). Prints contents old new t) (all_printed points rows witnesses) all

-- the lines of some lines that were printed
pub lines_again : (xs : List CheckLine) → AllByRecursion HasCheckLine xs
    → lines_of (all_lines check_line xs) ≡ map check_line xs
lines_again [] has = refl
lines_again (x ∷ xs) has =
    let line = check_line x in
    let rest = all_lines check_line xs in
    let parted : slice_split (λ b. eqb b 10) (printed line ++ rest) ≡ line ∷ slice_split (λ b. eqb b 10) rest =
    ap (λ text. slice_split (λ b. eqb b 10) text) (append_assoc line (10 ∷ []) rest)
    ∙ split_line line rest (line_has_no_feed (check_words x) (are_words x has.0)) in
    first_of_lines line (printed line ++ rest) rest parted ∙ ap (λ lines. line ∷ lines) (lines_again xs has.1)

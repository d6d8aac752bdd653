-- Rows at or below the horizon only go, whatever calls come: an accepted item is above it. So after a pass no more of
-- them are left of the keys of each part than it kept.
use Rattle.std.proofs.Common.{◌≡◌, ℕ, ◌+◌, ◌<◌, ◌≤◌, List, [], ◌∷◌, ◌++◌, Bool, true, false, cond, leb, length}
use Rattle.std.proofs.Common.{Some, None, Contains, refl, ap, sym, ◌∙◌, subst, arith}
use Rattle.std.specs.Prelude.{MatchOption, sum_by}
use Rattle.std.specs.List.{items_where_true}
use Rattle.std.specs.List.Sorted.{IsPermutation}
use Rattle.std.proofs.lemmas.Bool.{lt-leb}
use Rattle.std.proofs.lemmas.List.Sums.{sum_by-cons, sum_by-append}
use Rattle.std.proofs.lemmas.List.Sorted.{sum_by-IsPermutation}
use Rattle.hlc_values.proofs.MemberLemmas.{Contains-first, Contains-rest}
use Rattle.hlc_rows.specs.declared.row.Row.{Row}
use Rattle.hlc_columns.specs.Answers.{in_part}
use Rattle.hlc_table_column.specs.Rows.{rows_to}
use Rattle.hlc_node.specs.declared.item.Item.{Item}
use Rattle.hlc_vacuum.specs.Representing.{IsWithin}
use Rattle.hlc_core.specs.Past.{Step, horizon, item_rows}
use Rattle.hlc_core.specs.StoreView.{StoreView, Represents}
use Rattle.hlc_core.specs.Parts.{rows_of_keys, EndsAt}
use Rattle.hlc_core.specs.GoneOn.{HasGoneOn, unchanged, accepted, joined, opened, closed, all_closed, vacuumed}
use Rattle.hlc_core.specs.GoneOn.{part_vacuumed, later}
use Rattle.hlc_core.proofs.PastLemmas.{above-horizon, body_rows-are, vacuum-above, writes-limits}
use Rattle.hlc_witness.specs.Cost.{IsInLimits}
use Rattle.std.proofs.lemmas.List.Elements.{All-contains}
use Rattle.hlc_core.specs.Past.{writes}
use Rattle.hlc_vacuum_parts.specs.Between.{MadePart, IsPartAt, ArePassWithCalls, left_last, kept_by}
use Rattle.hlc_vacuum_parts.proofs.Halves.{Kind, count-halves}
use Rattle.hlc_vacuum_parts.proofs.Passes.{halves, ends-from, keys-above}

-- a row counts if it is of a key of the kind, and at or below the stamp
abbrev counts : ℕ → Kind → Row → ℕ
counts at is_of row = cond (is_of row.key) (cond (leb row.stamp at) 1 0) 0

-- how many such rows there are
abbrev low_of : ℕ → Kind → List Row → ℕ
low_of at is_of rows = length (rows_to at (rows_of_keys is_of rows))

low-sum : (at : ℕ) (is_of : Kind) (rows : List Row) → low_of at is_of rows ≡ sum_by (counts at is_of) rows
low-sum at is_of [] = refl
low-sum at is_of (row ∷ rows) =
    let kept : List Row = rows_of_keys is_of rows in
    let s : ℕ = sum_by (counts at is_of) rows in
    let rest : length (rows_to at kept) ≡ s = low-sum at is_of rows in
    let first : length (rows_to at (cond (is_of row.key) (row ∷ kept) kept))
    ≡ cond (is_of row.key) (cond (leb row.stamp at) 1 0) 0 + s =
    elim (is_of row.key) as (λ b. length (rows_to at (cond b (row ∷ kept) kept))
    ≡ cond b (cond (leb row.stamp at) 1 0) 0 + s) [
      | true ↦ elim (leb row.stamp at) as (λ d. length (cond d (row ∷ rows_to at kept) (rows_to at kept))
          ≡ cond d 1 0 + s) [
            | true ↦ omega (arith, rest)
            | false ↦ omega (arith, rest)
          ]
      | false ↦ omega (arith, rest)
    ] in
    first ∙ sym (sum_by-cons (counts at is_of) row rows)

-- of rows at the places of flags there are no more
sum-within : (f : Row → ℕ) (keep : List Bool) (rows : List Row) → sum_by f (items_where_true keep rows) ≤ sum_by f rows
sum-within f [] rows = omega arith
sum-within f (flag ∷ keep) [] = omega arith
sum-within f (true ∷ keep) (row ∷ rows) =
    let rest = sum-within f keep rows in
    let a = sum_by-cons f row (items_where_true keep rows) in
    let b = sum_by-cons f row rows in omega (arith, rest, a, b)
sum-within f (false ∷ keep) (row ∷ rows) =
    let rest = sum-within f keep rows in
    let b = sum_by-cons f row rows in omega (arith, rest, b)

low-within : (at : ℕ) (is_of : Kind) (old new : List Row) → IsWithin old new → low_of at is_of new ≤ low_of at is_of old
low-within at is_of old new (keep, is) =
    let a = low-sum at is_of old in
    let b = low-sum at is_of new in
    let c = ap (sum_by (counts at is_of)) is in
    let d = sum-within (counts at is_of) keep old in omega (arith, a, b, c, d)

-- rows above the stamp do not count
either-way : (b : Bool) (n : ℕ) → cond b n n ≡ n
either-way true n = refl
either-way false n = refl

sum-above : (at : ℕ) (is_of : Kind) (rows : List Row) → ((row : Row) → Contains rows row → at < row.stamp)
    → sum_by (counts at is_of) rows ≡ 0
sum-above at is_of [] high = refl
sum-above at is_of (row ∷ rows) high =
    let rest = sum-above at is_of rows (λ other i. high other (Contains-rest row other rows i)) in
    let first : counts at is_of row ≡ 0 =
    ap (λ b. cond (is_of row.key) (cond b 1 0) 0) (lt-leb row.stamp at (high row (Contains-first row rows)))
    ∙ either-way (is_of row.key) 0 in
    let a = sum_by-cons (counts at is_of) row rows in omega (arith, rest, first, a)

low-accepted : (at : ℕ) (is_of : Kind) (old new : List Row) (item : Item) → IsPermutation (old ++ item_rows item) new
    → at < item.stamp → low_of at is_of new ≡ low_of at is_of old
low-accepted at is_of old new item moved up =
    let a = low-sum at is_of old in
    let b = low-sum at is_of new in
    let c = sum_by-IsPermutation (counts at is_of) (old ++ item_rows item) new moved in
    let d = sum_by-append (counts at is_of) old (item_rows item) in
    let e = sum-above at is_of (item_rows item) (λ row i.
    let same = (body_rows-are item.node item.stamp item.body row i).1 in omega (arith, same, up)) in
    omega (arith, a, b, c, d, e)

-- what is left of the rows at or below a stamp that is not above the horizon, and that it stays so
record IsLess (at : ℕ) (is_of : Kind) (old new : StoreView) : Type 0 where
  low : at ≤ new.horizon
  rows : low_of at is_of new.rows ≤ low_of at is_of old.rows

goes-down : {old new : StoreView} (at : ℕ) (is_of : Kind) → HasGoneOn old new → at ≤ old.horizon
    → IsLess at is_of old new
goes-down at is_of unchanged low = record { low = low; rows = omega arith }
goes-down at is_of (accepted {old = old} {new = new} past item was is moved) low =
    let same : new.horizon ≡ old.horizon = is.horizon ∙ sym was.horizon in
    let up : horizon past < item.stamp = above-horizon past item was.legal is.legal.0 in
    let here' : old.horizon ≡ horizon past = was.horizon in
    let rows = low-accepted at is_of old.rows new.rows item moved (omega (arith, low, up, here')) in
    record { low = omega (arith, low, same); rows = omega (arith, rows) }
goes-down at is_of (joined {old = old} {new = new} past node start was is stay) low =
    let same : new.horizon ≡ old.horizon = is.horizon ∙ sym was.horizon in
    let rows = ap (low_of at is_of) stay in record { low = omega (arith, low, same); rows = omega (arith, rows) }
goes-down at is_of (opened {old = old} {new = new} past stamp was is stay) low =
    let same : new.horizon ≡ old.horizon = is.horizon ∙ sym was.horizon in
    let rows = ap (low_of at is_of) stay in record { low = omega (arith, low, same); rows = omega (arith, rows) }
goes-down at is_of (closed {old = old} {new = new} past id was is stay) low =
    let same : new.horizon ≡ old.horizon = is.horizon ∙ sym was.horizon in
    let rows = ap (low_of at is_of) stay in record { low = omega (arith, low, same); rows = omega (arith, rows) }
goes-down at is_of (all_closed {old = old}) low = record { low = low; rows = omega arith }
goes-down at is_of (vacuumed {old = old} {new = new} past to was is within) low =
    let up : horizon past ≤ to = vacuum-above past to is.legal.0 in
    let here' : old.horizon ≡ horizon past = was.horizon in
    let now : new.horizon ≡ to = is.horizon in
    record { low = omega (arith, low, up, here', now); rows = low-within at is_of old.rows new.rows within }
goes-down at is_of (part_vacuumed {old = old} {new = new} past to dropped was is within) low =
    let up : horizon past ≤ to = vacuum-above past to is.legal.0 in
    let here' : old.horizon ≡ horizon past = was.horizon in
    let now : new.horizon ≡ to = is.horizon in
    record { low = omega (arith, low, up, here', now); rows = low-within at is_of old.rows new.rows within }
goes-down at is_of (later {old = old} {mid = mid} {new = new} first second) low =
    let a : IsLess at is_of old mid = goes-down at is_of first low in
    let b : IsLess at is_of mid new = goes-down at is_of second a.low in
    record { low = b.low; rows = omega (arith, a.rows, b.rows) }

-- a part is a change of the store
part-goes_on : (at : ℕ) (after : List ℕ) (part : MadePart) → IsPartAt at after part → HasGoneOn part.before part.left
part-goes_on at after part made =
    part_vacuumed part.past at part.report.dropped made.represents made.vacuums.2.represents made.within

-- and so are all parts of a pass, with what came between them
pass-goes_on : (at : ℕ) (after : List ℕ) (part : MadePart) (parts : List MadePart)
    → ArePassWithCalls at after part parts → HasGoneOn part.before (left_last part parts)
pass-goes_on at after part [] (made, ends) = part-goes_on at after part made
pass-goes_on at after part (next ∷ parts) (made, gone, on) =
    elim part.end as (λ e. MatchOption e ⊥ (λ key. ArePassWithCalls at key next parts)
    → HasGoneOn part.before (left_last next parts)) [
      | None ↦ λ none. absurd none
      | Some key ↦ λ rest.
          later (part-goes_on at after part made) (later gone (pass-goes_on at key next parts rest))
    ] on

-- what a part leaves of the rows of its keys
part-left : (at : ℕ) (after : List ℕ) (part : MadePart) → IsPartAt at after part
    → low_of at (in_part after part.end) part.left.rows ≡ part.report.kept
part-left at after part made =
    let keys = made.vacuums.2 in
    ap (λ f. length (rows_to f (rows_of_keys (in_part after part.end) part.left.rows))) (sym keys.expected.at_stamp)
    ∙ keys.fewest.count

part-low : (at : ℕ) (after : List ℕ) (part : MadePart) → IsPartAt at after part → at ≤ part.left.horizon
part-low at after part made =
    let e : part.left.horizon ≡ at = made.vacuums.2.represents.horizon in omega (arith, e)

-- from a key on no more are left than the parts from there on kept
pass-left : (at : ℕ) (after : List ℕ) (part : MadePart) (parts : List MadePart) (last : StoreView)
    → ArePassWithCalls at after part parts → HasGoneOn (left_last part parts) last
    → low_of at (in_part after None) last.rows ≤ kept_by part parts
pass-left at after part [] last (made, ends) gone =
    let is_of : Kind = in_part after None in
    let kept : low_of at is_of part.left.rows ≡ part.report.kept =
    subst (λ e. low_of at (in_part after e) part.left.rows ≡ part.report.kept) ends (part-left at after part made) in
    let less = goes-down at is_of gone (part-low at after part made) in
    let rows = less.rows in omega (arith, kept, rows)
pass-left at after part (next ∷ parts) last (made, between, on) gone =
    elim part.end as (λ e. part.end ≡ e → MatchOption e ⊥ (λ key. ArePassWithCalls at key next parts)
    → low_of at (in_part after None) last.rows ≤ part.report.kept + kept_by next parts) [
      | None ↦ λ _ none. absurd none
      | Some key ↦ λ is rest.
          let whole : Kind = in_part after None in
          let first : Kind = in_part after (Some key) in
          let second : Kind = in_part key None in
          let more : low_of at second last.rows ≤ kept_by next parts = pass-left at key next parts last rest gone in
          let kept : low_of at first part.left.rows ≡ part.report.kept =
          subst (λ e. low_of at (in_part after e) part.left.rows ≡ part.report.kept) is
          (part-left at after part made) in
          let less = goes-down at first (later between (later (pass-goes_on at key next parts rest) gone))
          (part-low at after part made) in
          let few = less.rows in
          let ends : EndsAt part.before after part.limit (Some key) =
          subst (λ e. EndsAt part.before after part.limit e) is made.vacuums.1 in
          let both : low_of at whole last.rows ≡ low_of at first last.rows + low_of at second last.rows =
          count-halves whole first second (halves after key (ends-from part.before after part.limit key ends))
          (λ row. leb row.stamp at) last.rows in
          omega (arith, more, kept, few, both)
    ] refl on

-- and so of all keys, each of which is above the empty one
pub a-pass-leaves-no-more : (at : ℕ) (part : MadePart) (parts : List MadePart) (last : StoreView) (past : List Step)
    → ArePassWithCalls at [] part parts → HasGoneOn (left_last part parts) last → Represents last past
    → length (rows_to at last.rows) ≤ kept_by part parts
a-pass-leaves-no-more at part parts last past pass gone h =
    let limits : (row : Row) → Contains (writes past) row → IsInLimits row =
    λ row i. All-contains IsInLimits (writes past) row (writes-limits past h.legal) i in
    let all' : rows_of_keys (in_part [] None) last.rows ≡ last.rows =
    keys-above last.rows (λ row i. limits row (h.rows.within row i)) in
    let few = pass-left at [] part parts last pass gone in
    let e = ap (λ rows. length (rows_to at rows)) all' in omega (arith, few, e)

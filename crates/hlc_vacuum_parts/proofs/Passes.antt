-- The parts of a pass, from the last one back: from each key on they are together a part without an end. All of them
-- are a vacuum, since each key of a row is above the empty one.
use Rattle.std.proofs.Common.{◌≡◌, ℕ, ◌+◌, ◌≤◌, List, [], ◌∷◌, Bool, true, false, cond, ◌&&◌}
use Rattle.std.proofs.Common.{Option, Some, None}
use Rattle.std.proofs.Common.{Contains, All, length, refl, ap, ap₂, sym, ◌∙◌, subst, inl, inr, arith}
use Rattle.std.proofs.Common.{Ordering, Less, Equal, Greater, nat_cmp, leb}
use Rattle.std.specs.Prelude.{not, ◌⊎◌, MatchOption, nat_lt, is_some}
use Rattle.std.specs.Ordering.{is_gt, ordering_reverse}
use Rattle.std.specs.Cmp.{IsTotalOrder}
use Rattle.std.specs.Cmp.Lexicographic.{slice_cmp}
use Rattle.std.proofs.lemmas.Cmp.{nat_list_cmp_total}
use Rattle.std.proofs.lemmas.Bool.{both_ways}
use Rattle.std.proofs.lemmas.List.{length-append}
use Rattle.std.proofs.lemmas.List.Elements.{All-head, All-tail, All-contains}
use Rattle.hlc_values.proofs.MemberLemmas.{Contains-first, Contains-rest}
use Rattle.hlc_clock.proofs.PointLemmas.{ArePoints-unique}
use Rattle.hlc_rows.specs.declared.row.Row.{Row}
use Rattle.hlc_rows.specs.Limits.{write_refusal}
use Rattle.hlc_columns.specs.Answers.{in_part, part_end, last_key}
use Rattle.hlc_table_column.specs.Rows.{KeyCells, rows_to}
use Rattle.hlc_snapshot.specs.RegistryView.{stamps_to}
use Rattle.hlc_witness.specs.Changes.{AreChanges}
use Rattle.hlc_witness.specs.Cost.{IsInLimits, changes_cost}
use Rattle.hlc_vacuum_draft.specs.declared.report.Report.{Report}
use Rattle.hlc_vacuum.specs.Representing.{count_above, count_between}
use Rattle.hlc_vacuum.proofs.CountLemmas.{split_count, same_above}
use Rattle.hlc_vacuum.proofs.RepresentingLemmas.{rows_above_are_counted}
use Rattle.hlc_core.specs.Past.{Step, PartVacuumed, Vacuumed, horizon, vacuumed, part_dropped, writes, open_snapshots}
use Rattle.hlc_core.specs.Stored.{IsReport}
use Rattle.hlc_core.specs.StoreView.{StoreView, Represents}
use Rattle.hlc_core.specs.Calls.{Vacuums}
use Rattle.hlc_core.specs.Parts.{rows_of_keys, IsPartReport, VacuumsKeys, EndsAt}
use Rattle.hlc_core.proofs.PastLemmas.{vacuum-above, vacuumed-low, writes-limits}
use Rattle.hlc_core.proofs.VacuumLemmas.{leaves-fewest}
use Rattle.hlc_vacuum_parts.specs.Pass.{Part, ArePass, left_by, together, report_of}
use Rattle.hlc_vacuum_parts.proofs.Halves.{Kind, AreHalves, not_first, not_second, same-within, count-halves}
use Rattle.hlc_vacuum_parts.proofs.Halves.{changes-together, cost-together}

abbrev cmp : List ℕ → List ℕ → Ordering
cmp a b = slice_cmp nat_cmp a b

total : IsTotalOrder (slice_cmp nat_cmp)
total = nat_list_cmp_total

and-first : (a b : Bool) → (a && b) ≡ true → a ≡ true
and-first true b t = refl
and-first false b t = t

and-second : (a b : Bool) → (a && b) ≡ true → b ≡ true
and-second true b t = t
and-second false b t = absurd (both_ways false refl t)

not-true : (b : Bool) → not b ≡ true → b ≡ false
not-true false t = refl
not-true true t = sym t

greater : (o : Ordering) → is_gt o ≡ true → o ≡ Greater
greater Less t = absurd (both_ways false refl t)
greater Equal t = absurd (both_ways false refl t)
greater Greater t = refl

-- a key above another has that below it
below : (a b : List ℕ) → is_gt (cmp a b) ≡ true → cmp b a ≡ Less
below a b t = total.antisymm b a ∙ ap ordering_reverse (greater (cmp a b) t)

above : (a b : List ℕ) → cmp b a ≡ Less → is_gt (cmp a b) ≡ true
above a b l = ap is_gt (total.antisymm a b ∙ ap ordering_reverse l)

-- a key that is not below another one
abbrev IsFrom : List ℕ → List ℕ → Type 0
IsFrom after key = (key ≡ after) ⊎ (is_gt (cmp key after) ≡ true)

from-above : (after key other : List ℕ) → IsFrom after key → is_gt (cmp other key) ≡ true
    → is_gt (cmp other after) ≡ true
from-above after key other (inl e) t = subst (λ k. is_gt (cmp other k) ≡ true) e t
from-above after key other (inr g) t = above other after
    (total.trans after key other (below key after g) (below other key t))

-- the keys above one are those up to a later one and those above that
pub halves : (after key : List ℕ) → IsFrom after key
    → AreHalves (in_part after None) (in_part after (Some key)) (in_part key None)
halves after key from = record {
  first_in = λ k t. ap (λ b. b && true) (and-first (is_gt (cmp k after)) (not (is_gt (cmp k key))) t);
  second_in = λ k t. ap (λ b. b && true) (from-above after key k from (and-first (is_gt (cmp k key)) true t));
  covers = λ k t. let up : is_gt (cmp k after) ≡ true = and-first (is_gt (cmp k after)) true t in
      elim (is_gt (cmp k key)) as (λ b. is_gt (cmp k key) ≡ b
      → (in_part after (Some key) k ≡ true) ⊎ (in_part key None k ≡ true)) [
        | true ↦ λ g. inr (ap (λ b. b && true) g)
        | false ↦ λ f. inl (ap₂ (λ a b. a && not b) up f)
      ] refl;
  apart = λ k t. ap (λ b. b && true)
      (not-true (is_gt (cmp k key)) (and-second (is_gt (cmp k after)) (not (is_gt (cmp k key))) t));
  before = λ a b t s.
      let low : is_gt (cmp a key) ≡ false =
      not-true (is_gt (cmp a key)) (and-second (is_gt (cmp a after)) (not (is_gt (cmp a key))) t) in
      let up : cmp key b ≡ Less = below b key (and-first (is_gt (cmp b key)) true s) in
      elim (cmp a key) as (λ o. cmp a key ≡ o → cmp a b ≡ Less) [
        | Less ↦ λ l. total.trans a key b l up
        | Equal ↦ λ e. total.congr a key b e ∙ up
        | Greater ↦ λ g. absurd (both_ways (is_gt (cmp a key)) low (ap is_gt g))
      ] refl;
}

-- a part ends at or above the key at which it began
last-from : (after : List ℕ) (end : Option (List ℕ)) (other : List ℕ) (columns : List KeyCells) → IsFrom after other
    → All (λ one. in_part after end one.key ≡ true) columns → IsFrom after (last_key other columns)
last-from after end other [] from all' = from
last-from after end other (one ∷ columns) from all' =
    last-from after end one.key columns
    (inr (and-first (is_gt (cmp one.key after)) _ (All-head (λ c. in_part after end c.key ≡ true) one columns all')))
    (All-tail (λ c. in_part after end c.key ≡ true) one columns all')

abbrev inside : Option (List ℕ) → List ℕ
inside None = []
inside (Some key) = key

pub ends-from : (kept : StoreView) (after : List ℕ) (limit : ℕ) (key : List ℕ) → EndsAt kept after limit (Some key)
    → IsFrom after key
ends-from kept after limit key ends =
    elim (nat_lt (length ends.columns) limit) as (λ b.
    Some key ≡ cond b None (Some (last_key after ends.columns)) → IsFrom after key) [
      | true ↦ λ e. absurd (both_ways true (ap is_some e) refl)
      | false ↦ λ e. subst (IsFrom after) (sym (ap inside e))
          (last-from after (part_end after limit ends.columns) after ends.columns (inl refl) ends.next.inside)
    ] ends.is

-- What is known after a part, or after several: the store represents the past with it, and the report is the expected
-- one.
pub record HasPassed (old new : StoreView) (at : ℕ) (past : List Step) (is_of : Kind) (report : Report) : Type 0 where
  pub represents : Represents new (PartVacuumed at report.dropped ∷ past)
  pub others : rows_of_keys (λ key. not (is_of key)) new.rows ≡ rows_of_keys (λ key. not (is_of key)) old.rows
  pub expected : IsPartReport at past is_of report
  pub dropped : report.dropped + length new.rows ≡ length old.rows
  pub count : length (rows_to at (rows_of_keys is_of new.rows)) ≡ report.kept

has-passed : (old new : StoreView) (at : ℕ) (past : List Step) (is_of : Kind) (report : Report)
    → VacuumsKeys old new at past is_of report → HasPassed old new at past is_of report
has-passed old new at past is_of report vacuums_keys = record {
  represents = vacuums_keys.represents;
  others = vacuums_keys.others;
  expected = vacuums_keys.expected;
  dropped = vacuums_keys.dropped;
  count = ap (λ f. length (rows_to f (rows_of_keys is_of new.rows))) (sym vacuums_keys.expected.at_stamp)
      ∙ vacuums_keys.fewest.count;
}

-- the steps of two parts are one that dropped the rows of both
one-step : (new : StoreView) (past : List Step) (at first rest : ℕ)
    → Represents new (PartVacuumed at rest ∷ PartVacuumed at first ∷ past)
    → Represents new (PartVacuumed at (first + rest) ∷ past)
one-step new past at first rest h = record {
  legal = h.legal.1;
  initial_nodes = h.initial_nodes;
  links = record { many = h.links.many; each = h.links.each };
  top = h.top;
  snapshots = h.snapshots;
  last_id = h.last_id;
  rows = h.rows;
  stored = (
    h.stored.0,
    h.stored.1,
    let was : length new.rows + (rest + (first + part_dropped past))
        ≡ length h.stored.0 + count_above (vacuumed past) (writes past) = h.stored.2 in
        let now : length new.rows + ((first + rest) + part_dropped past)
        ≡ length h.stored.0 + count_above (vacuumed past) (writes past) = omega arith in
        now,
  );
  horizon = h.horizon;
}

-- a part, and what came after it, together
pass-on : (old mid new : StoreView) (at : ℕ) (past : List Step) (whole first second : Kind) (report rest : Report)
    → AreHalves whole first second → HasPassed old mid at past first report
    → HasPassed mid new at (PartVacuumed at report.dropped ∷ past) second rest
    → HasPassed old new at past whole (together report rest)
pass-on old mid new at past whole first second report rest h a b =
    let points : rest.points ≡ report.points = ArePoints-unique (stamps_to at (open_snapshots past)) rest.points
    report.points at b.expected.points a.expected.points in
    let there : AreChanges (rows_of_keys second (writes past)) report.points rest.witnesses =
    subst (λ ps. AreChanges (rows_of_keys second (writes past)) ps rest.witnesses) points b.expected.witnesses in
    let stays : rows_of_keys first new.rows ≡ rows_of_keys first mid.rows =
    same-within (λ key. not (second key)) first (λ key t. ap not (h.apart key t)) new.rows mid.rows b.others in
    let here' : report.dropped + length mid.rows ≡ length old.rows = a.dropped in
    let there' : rest.dropped + length new.rows ≡ length mid.rows = b.dropped in
    let kept : length (rows_to at (rows_of_keys first new.rows)) ≡ report.kept =
    ap (λ rows. length (rows_to at rows)) stays ∙ a.count in
    let more : length (rows_to at (rows_of_keys second new.rows)) ≡ rest.kept = b.count in
    let both : length (rows_to at (rows_of_keys whole new.rows))
    ≡ length (rows_to at (rows_of_keys first new.rows)) + length (rows_to at (rows_of_keys second new.rows)) =
    count-halves whole first second h (λ row. leb row.stamp at) new.rows in
    record {
      represents = one-step new past at report.dropped rest.dropped b.represents;
      others = same-within (λ key. not (second key)) (λ key. not (whole key)) (not_second whole first second h)
          new.rows mid.rows b.others
          ∙ same-within (λ key. not (first key)) (λ key. not (whole key)) (not_first whole first second h) mid.rows
          old.rows a.others;
      expected = record {
        at_stamp = a.expected.at_stamp;
        points = a.expected.points;
        witnesses = changes-together whole first second h (writes past) report.points report.witnesses
            rest.witnesses a.expected.witnesses there;
        kept = ap₂ (λ x y. x + y) a.expected.kept b.expected.kept
            ∙ sym (length-append report.witnesses rest.witnesses);
        bytes = ap₂ (λ x y. x + y) a.expected.bytes b.expected.bytes
            ∙ cost-together whole first second h (writes past) report.points report.witnesses rest.witnesses
            a.expected.witnesses there;
      };
      dropped = omega arith;
      count = both ∙ ap₂ (λ x y. x + y) kept more;
    }

passes : (old : StoreView) (at : ℕ) (after : List ℕ) (past : List Step) (part : Part) (parts : List Part)
    → ArePass old at after past part parts
    → HasPassed old (left_by part parts) at past (in_part after None) (report_of part parts)
passes old at after past part [] (made, ends) =
    has-passed old part.left at past (in_part after None) part.report
    (subst (λ e. VacuumsKeys old part.left at past (in_part after e) part.report) ends made.2)
passes old at after past part (next ∷ parts) (made, on) =
    elim part.end as (λ e. part.end ≡ e
    → MatchOption e ⊥ (λ key. ArePass part.left at key (PartVacuumed at part.report.dropped ∷ past) next parts)
    → HasPassed old (left_by next parts) at past (in_part after None)
    (together part.report (report_of next parts))) [
      | None ↦ λ _ none. absurd none
      | Some key ↦ λ is rest.
          pass-on old part.left (left_by next parts) at past (in_part after None) (in_part after (Some key))
          (in_part key None) part.report (report_of next parts)
          (halves after key (ends-from old after part.limit key
          (subst (λ e. EndsAt old after part.limit e) is made.1)))
          (has-passed old part.left at past (in_part after (Some key)) part.report
          (subst (λ e. VacuumsKeys old part.left at past (in_part after e) part.report) is made.2))
          (passes part.left at key (PartVacuumed at part.report.dropped ∷ past) next parts rest)
    ] refl on

-- the empty key is below the key of each row
pub keys-above : (rows : List Row) → ((row : Row) → Contains rows row → IsInLimits row)
    → rows_of_keys (in_part [] None) rows ≡ rows
keys-above [] in' = refl
keys-above (row ∷ rows) in' =
    ap (λ b. cond b (row ∷ rows_of_keys (in_part [] None) rows) (rows_of_keys (in_part [] None) rows))
    (has-key row.key (in' row (Contains-first row rows)))
    ∙ ap (λ l. row ∷ l) (keys-above rows (λ r i. in' r (Contains-rest row r rows i)))
  where
    has-key : (key : List ℕ) → write_refusal key row.value ≡ None → in_part [] None key ≡ true
    has-key [] fine = absurd (both_ways true (ap is_some fine) refl)
    has-key (byte ∷ bytes) fine = refl

pub parts-are-a-vacuum : (old : StoreView) (at : ℕ) (past : List Step) (part : Part) (parts : List Part)
    → Represents old past → ArePass old at [] past part parts
    → Vacuums (left_by part parts) at past (report_of part parts)
parts-are-a-vacuum old at past part parts h pass =
    let new : StoreView = left_by part parts in
    let report : Report = report_of part parts in
    let p : HasPassed old new at past (in_part [] None) report = passes old at [] past part parts pass in
    let all' : List Row = writes past in
    let limits : (row : Row) → Contains all' row → IsInLimits row =
    λ row i. All-contains IsInLimits all' row (writes-limits past h.legal) i in
    let whole : rows_of_keys (in_part [] None) all' ≡ all' = keys-above all' limits in
    let left : rows_of_keys (in_part [] None) new.rows ≡ new.rows =
    keys-above new.rows (λ row i. limits row (p.represents.rows.within row i)) in
    let witnesses : AreChanges all' report.points report.witnesses =
    subst (λ rows. AreChanges rows report.points report.witnesses) whole p.expected.witnesses in
    let low : length (rows_to at new.rows) ≡ length report.witnesses =
    ap (λ rows. length (rows_to at rows)) (sym left) ∙ p.count ∙ p.expected.kept in
    let split : length new.rows ≡ length (rows_to at new.rows) + count_above at new.rows = split_count at new.rows in
    let high : count_above at new.rows ≡ count_above at all' = same_above at new.rows all' p.represents.rows.row_set
    p.represents.rows.all_row_set (λ row i _. p.represents.rows.within row i) p.represents.rows.above in
    let number : length new.rows + 0 ≡ length report.witnesses + count_above at all' = omega arith in
    let represents : Represents new (Vacuumed at ∷ past) = record {
      legal = p.represents.legal;
      initial_nodes = p.represents.initial_nodes;
      links = record { many = p.represents.links.many; each = p.represents.links.each };
      top = p.represents.top;
      snapshots = p.represents.snapshots;
      last_id = p.represents.last_id;
      rows = p.represents.rows;
      stored = (report.witnesses, (report.points, p.expected.points, witnesses), number);
      horizon = p.represents.horizon;
    } in
    let expected : IsReport at past report = record {
      at_stamp = p.expected.at_stamp;
      points = p.expected.points;
      witnesses = witnesses;
      kept = p.expected.kept;
      bytes = p.expected.bytes ∙ ap (λ rows. changes_cost rows report.witnesses) whole;
      dropped = (
        h.stored.0,
        h.stored.1,
        let was : length old.rows + part_dropped past ≡ length h.stored.0 + count_above (vacuumed past) all' =
            h.stored.2 in
            let bound : vacuumed past ≤ horizon past = vacuumed-low past h.legal in
            let up : horizon past ≤ at = vacuum-above past at p.represents.legal.0 in
            let between : count_above (vacuumed past) all'
            ≡ count_between (vacuumed past) at all' + count_above at all' =
            rows_above_are_counted (vacuumed past) at all' (omega arith) in
            let gone : report.dropped + length new.rows ≡ length old.rows = p.dropped in
            let kept : report.kept ≡ length report.witnesses = p.expected.kept in
            let whole' : report.dropped + report.kept + part_dropped past
            ≡ length h.stored.0 + count_between (vacuumed past) at all' = omega arith in
            whole',
      );
    } in
    record {
      represents = represents;
      expected = expected;
      fewest = leaves-fewest new at past report represents expected;
    }

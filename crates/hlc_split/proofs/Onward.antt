-- The own past of a part has the links, the snapshots and the writes of its keys of the whole, whatever was vacuumed.
-- So two parts that were vacuumed to one stamp in the end are together the whole, vacuumed to that stamp.
use Rattle.std.proofs.Common.{◌≡◌, ℕ, Bool, true, ◌-◌, ◌≤◌, List, ◌∷◌, ◌++◌, length, refl, ap₂, sym, ◌∙◌, subst, arith}
use Rattle.std.{specs.Prelude.not, proofs.lemmas.List.Elements.filter-append}
use Rattle.hlc_rows.specs.{declared.row.Row.Row, Rows.answer}
use Rattle.hlc_snapshot.specs.RegistryView.{stamps}
use Rattle.hlc_vacuum.specs.Representing.{RowsRepresent}
use Rattle.hlc_core.specs.Past.{Step, PartVacuumed, floor, horizon, writes, item_rows, open_snapshots, IsLegal}
use Rattle.hlc_core.specs.{Parts.rows_of_keys, StoreView.StoreView, StoreView.with_rows, StoreView.Represents}
use Rattle.hlc_core.proofs.PartLemmas.{answer-of_keys}
use Rattle.hlc_core.proofs.PastLemmas.{vacuum-none, vacuum-above, horizon-low, writes-row_set}
use Rattle.hlc_split.specs.Split.{body_in, RepresentsPart}
use Rattle.hlc_split.specs.OwnPast.{IsOwnPast, began, took, opened, closed, joined, vacuumed, part_dropped}
use Rattle.hlc_replicas.proofs.AlikeLemmas.{AreAlike, alike-took, alike-joined, alike-opened, alike-closed}
use Rattle.hlc_replicas.proofs.AlikeLemmas.{floors-alike}
use Rattle.hlc_split.proofs.SamePast.{alike-in, retires-in, writes-in, body_rows-in}
use Rattle.hlc_split.proofs.PartRows.{fewer, part-represents}
use Rattle.hlc_split.proofs.Merging.{merged, filter-all, own-rows}

-- the own past of a part is like that of the whole
pub alike-own : (is_of : List ℕ → Bool) {past own : List Step} → IsOwnPast is_of past own → AreAlike own past
alike-own is_of (began past dropped) = alike-in is_of past
alike-own is_of (took {past} {own} item before) =
    alike-took own past item (body_in is_of item.body) (retires-in is_of item.body) (alike-own is_of before)
alike-own is_of (opened {past} {own} stamp before) = alike-opened own past stamp (alike-own is_of before)
alike-own is_of (closed {past} {own} id before) = alike-closed own past id (alike-own is_of before)
alike-own is_of (joined {past} {own} node start before) = alike-joined own past node start (alike-own is_of before)
alike-own is_of (vacuumed at before) = alike-own is_of before
alike-own is_of (part_dropped at dropped before) = alike-own is_of before

-- and it has the writes of its keys
writes-own : (is_of : List ℕ → Bool) {past own : List Step} → IsOwnPast is_of past own
    → writes own ≡ rows_of_keys is_of (writes past)
writes-own is_of (began past dropped) = writes-in is_of past
writes-own is_of (took {past} {own} item before) =
    ap₂ (λ (a : List Row) (b : List Row). a ++ b) (writes-own is_of before)
    (body_rows-in is_of item.node item.stamp item.body)
    ∙ sym (filter-append (λ (row : Row). is_of row.key) (writes past) (item_rows item))
writes-own is_of (opened stamp before) = writes-own is_of before
writes-own is_of (closed id before) = writes-own is_of before
writes-own is_of (joined node start before) = writes-own is_of before
writes-own is_of (vacuumed at before) = writes-own is_of before
writes-own is_of (part_dropped at dropped before) = writes-own is_of before

-- the part's horizon is not below that of the whole
pub horizon-up : (is_of : List ℕ → Bool) {past own : List Step} → IsOwnPast is_of past own → IsLegal own
    → horizon past ≤ horizon own
horizon-up is_of (began past dropped) legal = omega arith
horizon-up is_of (took item before) legal = horizon-up is_of before legal.1
horizon-up is_of (opened stamp before) legal = horizon-up is_of before legal.1
horizon-up is_of (closed id before) legal = horizon-up is_of before legal.1
horizon-up is_of (joined node start before) legal = horizon-up is_of before legal.3
horizon-up is_of (vacuumed {past} {own} at before) legal =
    let old : horizon past ≤ horizon own = horizon-up is_of before legal.1 in
    let up : horizon own ≤ at = vacuum-above own at legal.0 in omega arith
horizon-up is_of (part_dropped {past} {own} at dropped before) legal =
    let old : horizon past ≤ horizon own = horizon-up is_of before legal.1 in
    let up : horizon own ≤ at = vacuum-above own at legal.0 in omega arith

-- the part answers at its keys as the whole does, from its horizon on
pub own-answers : (is_of : List ℕ → Bool) (part : StoreView) (past own : List Step) (key : List ℕ) (stamp : ℕ)
    → IsOwnPast is_of past own → Represents part own → is_of key ≡ true → part.horizon ≤ stamp
    → answer part.rows key stamp ≡ answer (writes past) key stamp
own-answers is_of part past own key stamp is h of_kind high =
    (own-rows is_of part past own part.horizon (alike-own is_of is).5 (writes-own is_of is) h refl).from_horizon key
    stamp high
    ∙ answer-of_keys is_of (writes past) key stamp of_kind

pub both-rows : (left right : StoreView) (past own_left own_right : List Step) (is_of : List ℕ → Bool)
    → IsLegal past → IsOwnPast is_of past own_left
    → IsOwnPast (λ key. not (is_of key)) past own_right → Represents left own_left → Represents right own_right
    → left.horizon ≡ right.horizon
    → RowsRepresent (left.rows ++ right.rows) (writes past) left.horizon (stamps (open_snapshots past))
both-rows left right past own_left own_right is_of legal is_left is_right l r same =
    let is_other : List ℕ → Bool = λ key. not (is_of key) in
    merged is_of left.rows right.rows (writes past) left.horizon (stamps (open_snapshots past))
    (writes-row_set past legal)
    (own-rows is_of left past own_left left.horizon (alike-own is_of is_left).5 (writes-own is_of is_left) l refl)
    (own-rows is_other right past own_right left.horizon (alike-own is_other is_right).5
    (writes-own is_other is_right) r (sym same))

pub own-parts_merge : (left right : StoreView) (past own_left own_right : List Step) (is_of : List ℕ → Bool)
    → IsLegal past → IsOwnPast is_of past own_left
    → IsOwnPast (λ key. not (is_of key)) past own_right → Represents left own_left → Represents right own_right
    → left.horizon ≡ right.horizon
    → RepresentsPart (λ _. true) (with_rows left (left.rows ++ right.rows))
    (PartVacuumed left.horizon 0 ∷ past)
own-parts_merge left right past own_left own_right is_of legal is_left is_right l r same =
    let at : ℕ = left.horizon in
    let rows : List Row = left.rows ++ right.rows in
    let alike : AreAlike own_left past = alike-own is_of is_left in
    let both = both-rows left right past own_left own_right is_of legal is_left is_right l r same in
    let few : length rows ≤ length (writes past) = fewer rows (writes past) both.row_set both.within in
    let is_at : at ≡ horizon own_left = l.horizon in
    let under : horizon own_left ≤ floor own_left = horizon-low own_left l.legal in
    let floors : floor own_left ≡ floor past = floors-alike own_left past alike in
    let over : horizon past ≤ horizon own_left = horizon-up is_of is_left l.legal in
    record {
      dropped = length (writes past) - length rows;
      represents = part-represents (λ _. true) left own_left (PartVacuumed at 0 ∷ past) rows
          (length (writes past) - length rows) l alike (vacuum-none past at (omega arith) (omega arith), legal) refl
          (rw (filter-all (writes past)) both) (rw (filter-all (writes past)) (omega arith));
    }

-- the same of what two parts are joined into
pub own_merged_represents : (left right made : StoreView) (past own_left own_right : List Step) (is_of : List ℕ → Bool)
    → made ≡ with_rows left (left.rows ++ right.rows) → left.horizon ≡ right.horizon
    → IsLegal past → IsOwnPast is_of past own_left
    → IsOwnPast (λ key. not (is_of key)) past own_right → Represents left own_left → Represents right own_right
    → RepresentsPart (λ _. true) made (PartVacuumed left.horizon 0 ∷ past)
own_merged_represents left right made past own_left own_right is_of is same legal is_left is_right l r =
    subst (λ kept. RepresentsPart (λ _. true) kept (PartVacuumed left.horizon 0 ∷ past)) (sym is)
    (own-parts_merge left right past own_left own_right is_of legal is_left is_right l r same)

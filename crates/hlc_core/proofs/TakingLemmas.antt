-- An item that is not refused is accepted: the core represents one more item.
use Rattle.std.proofs.Common.{◌≡◌, ℕ, ◌+◌, ◌<◌, ◌≤◌, List, [], ◌∷◌, ◌++◌, length, max, refl, subst, None, ap, sym, ◌∙◌}
use Rattle.std.proofs.Common.{arith, length-set, length-append}
use Rattle.std.specs.Prelude.{Contains, filter, nat_lt, slice_set}
use Rattle.std.proofs.lemmas.{Bool.lt-ltb, List.append-nil, List.append_assoc, List.Elements.filter-append}
use Rattle.hlc_values.proofs.MemberLemmas.{Contains-first, Contains-rest}
use Rattle.hlc_rows.specs.{declared.row.Row.Row, Rows.IsRowSet}
use Rattle.hlc_node.specs.{declared.item.Item.Item, declared.item.Body.Body, Items.retires}
use Rattle.hlc_intake.specs.IntakeView.{IntakeView}
use Rattle.hlc_core.specs.Past.{Step, Took, numbered, count, head, retired, horizon, vacuumed, part_dropped, writes}
use Rattle.hlc_core.specs.Past.{body_rows, open_snapshots, item_refusal, IsLegal}
use Rattle.hlc_core.specs.StoreView.{StoreView, Represents}
use Rattle.hlc_vacuum.specs.Representing.{RowsRepresent, count_above}
use Rattle.hlc_vacuum.proofs.RepresentingLemmas.{writes_keep_representing}
use Rattle.hlc_snapshot.specs.RegistryView.{stamps}
use Rattle.hlc_core.proofs.PastLemmas.{admissible, on_link, inside, above-horizon, vacuumed-low, writes-row_set}
use Rattle.hlc_core.proofs.PastLemmas.{body_rows-are}
use Rattle.hlc_core.proofs.{BatchLemmas.row_set-front, Links.links-took, Links.after_item}
use Rattle.hlc_heads.specs.Heads.{a_link}

-- rows above the horizon are stored with the others
rows-more : (stored all more : List Row) (horizon : ℕ) (opened : List ℕ) → RowsRepresent stored all horizon opened
    → ((row : Row) → Contains more row → horizon < row.stamp) → IsRowSet (all ++ more)
    → RowsRepresent (stored ++ more) (all ++ more) horizon opened
rows-more stored all [] horizon opened represent up apart = rw (append-nil, append-nil) represent
rows-more stored all (row ∷ more) horizon opened represent up apart =
    let first : IsRowSet ((all ++ row ∷ []) ++ more) = rw append_assoc apart in
    let one : RowsRepresent (stored ++ row ∷ []) (all ++ row ∷ []) horizon opened =
    writes_keep_representing stored all horizon opened row represent (up row (Contains-first row more))
    (row_set-front (all ++ row ∷ []) more first) in
    let rest : RowsRepresent ((stored ++ row ∷ []) ++ more) ((all ++ row ∷ []) ++ more) horizon opened =
    rows-more (stored ++ row ∷ []) (all ++ row ∷ []) more horizon opened one
    (λ r m. up r (Contains-rest row r more m)) first in
    subst (λ rows. RowsRepresent rows (all ++ row ∷ more) horizon opened) (append_assoc stored (row ∷ []) more)
    (subst (λ rows. RowsRepresent ((stored ++ row ∷ []) ++ more) rows horizon opened)
    (append_assoc all (row ∷ []) more) rest)

-- and so are the rows of an item
pub rows-body : (stored all : List Row) (horizon : ℕ) (opened : List ℕ) (node stamp : ℕ) (body : Body)
    → RowsRepresent stored all horizon opened → horizon < stamp → IsRowSet (all ++ body_rows node stamp body)
    → RowsRepresent (stored ++ body_rows node stamp body) (all ++ body_rows node stamp body) horizon opened
rows-body stored all horizon opened node stamp body represent up apart =
    rows-more stored all (body_rows node stamp body) horizon opened represent
    (λ row m. let are = body_rows-are node stamp body row m in omega (arith, are.1)) apart

-- all of which count as more rows above the bound
pub count-more : (bound : ℕ) (more : List Row) → ((row : Row) → Contains more row → bound < row.stamp)
    → count_above bound more ≡ length more
count-more bound [] up = refl
count-more bound (row ∷ more) up =
    let h = count-more bound more (λ r m. up r (Contains-rest row r more m)) in
    let b = lt-ltb bound row.stamp (up row (Contains-first row more)) in rw b (omega arith)

count-append : (bound : ℕ) (rows more : List Row)
    → count_above bound (rows ++ more) ≡ count_above bound rows + count_above bound more
count-append bound rows more =
    ap length (filter-append (λ (row : Row). nat_lt bound row.stamp) rows more)
    ∙ length-append (filter (λ (row : Row). nat_lt bound row.stamp) rows)
    (filter (λ (row : Row). nat_lt bound row.stamp) more)

count-body : (stored all : List Row) (bound dropped changes : ℕ) (node stamp : ℕ) (body : Body)
    → length stored + dropped ≡ changes + count_above bound all → bound < stamp
    → length (stored ++ body_rows node stamp body) + dropped
    ≡ changes + count_above bound (all ++ body_rows node stamp body)
count-body stored all bound dropped changes node stamp body is up =
    let more : List Row = body_rows node stamp body in
    let a : length (stored ++ more) ≡ length stored + length more = length-append stored more in
    let b : count_above bound (all ++ more) ≡ count_above bound all + count_above bound more =
    count-append bound all more in
    let c : count_above bound more ≡ length more =
    count-more bound more (λ row m. let are = body_rows-are node stamp body row m in omega (arith, are.1)) in
    omega arith

-- an item that is not refused is accepted
pub took : (kept : StoreView) (past : List Step) (item : Item) → Represents kept past
    → item_refusal past item ≡ None → Represents (after_item kept item) (Took item ∷ past)
took kept past item h none =
    let inside' : item.node < numbered past = inside past item none in
    let within : item.node < length kept.links = (let m = h.links.many in omega (arith, m)) in
    let next : item.number ≡ count item.node past =
    (admissible (retired item.node past) (count item.node past) (head item.node past) item
    (sym (on_link past item inside') ∙ none)).number in
    let link : IntakeView = a_link (item.number + 1) item.stamp (retires item.body) in
    let same : length (slice_set kept.links item.node link) ≡ length kept.links =
    length-set kept.links item.node link in
    let legal : IsLegal (Took item ∷ past) = (none, h.legal) in
    let up : horizon past < item.stamp = above-horizon past item h.legal none in
    let low : vacuumed past ≤ horizon past = vacuumed-low past h.legal in
    record {
      legal = legal;
      initial_nodes = h.initial_nodes;
      links = record {
        many = same ∙ h.links.many;
        each = λ n lt. links-took kept.links past item item.number next within h.links.each n (rw same at lt);
      };
      top = ap (λ t. max t item.stamp) h.top;
      snapshots = h.snapshots;
      last_id = h.last_id;
      rows = rows-body kept.rows (writes past) (horizon past) (stamps (open_snapshots past)) item.node
          item.stamp item.body h.rows up (writes-row_set (Took item ∷ past) legal);
      stored = (
        h.stored.0,
        h.stored.1,
        count-body kept.rows (writes past) (vacuumed past) (part_dropped past) (length h.stored.0) item.node item.stamp
            item.body h.stored.2 (omega arith),
      );
      horizon = h.horizon;
    }

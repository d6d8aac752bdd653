-- The run goes on with each item that the machine issues and a range accepts, and with a node that joins both.
use Rattle.std.proofs.Common.{◌≡◌, ℕ, ◌<◌, List, [], ◌∷◌, ◌++◌, Some, length, get_or, refl, ap, sym, ◌∙◌, subst, arith}
use Rattle.std.proofs.Common.{append_assoc, false, None, ◌≢◌, Contains, slice_get, eq-eqb}
use Rattle.std.proofs.lemmas.{Bool.cond-true, Option.slice_get-get_or}
use Rattle.hlc.specs.{Node.Item, Node.NodeView, Node.Row, Store.Step, Store.Took, Store.begun, Store.numbered}
use Rattle.hlc.specs.Ranges.{Layout, Turn, Issued, Stepped, RangesView, MachineView, Represents, IsMachineOf, issued}
use Rattle.hlc.specs.Ranges.{past_of, start_of, IsIssuedStep, each_stepped, join_step}
use Rattle.hlc_core.specs.Past.{item_rows}
use Rattle.hlc_ranges.specs.Run.{begun_writes, issued_since}
use Rattle.hlc_values.proofs.MemberLemmas.{Contains-first}
use Rattle.example_life.specs.Life.{HaveGoneOn, halves}

pub own-issued : (s : ℕ) (item : Item) (run : List Turn) → IsIssuedStep s (Took item) (Issued s item ∷ run)
own-issued s item run =
    let is : issued s item.node (Issued s item ∷ run) ≡ item ∷ issued s item.node run =
    cond-true _ _ _ (eq-eqb s s refl) ∙ cond-true _ _ _ (eq-eqb item.node item.node refl) in
    subst (λ (items : List Item). Contains items item) (sym is) (Contains-first item (issued s item.node run))

-- no node starts as an item is taken
pub none-starts : (layout : Layout) (s m : ℕ) (item : Item) (mark : ℕ × ℕ) → start_of layout s (Took item) ≡ Some mark
    → mark.0 ≢ m
none-starts layout s m item mark e = let none : None ≡ Some mark = e in absurd (cc)

pub went-on : {rows written : List Row} {bound : List ℕ} {ranges : RangesView} {machine : MachineView}
    (stood : HaveGoneOn rows bound written ranges machine) (s : ℕ) (item : Item) (more : List Row) (new : RangesView)
    (moved : MachineView) → Represents stood.layout new (Stepped s (Took item) ∷ (Issued s item ∷ stood.run))
    → IsMachineOf stood.layout (Stepped s (Took item) ∷ (Issued s item ∷ stood.run)) stood.number moved
    → new.division ≡ ranges.division → item_rows item ≡ more → HaveGoneOn rows bound (written ++ more) new moved
went-on {rows} {written} {bound} stood s item more new moved taken kept same are = record {
  layout = stood.layout;
  run = Stepped s (Took item) ∷ (Issued s item ∷ stood.run);
  number = stood.number;
  represents = taken;
  writes = kept;
  two = stood.two;
  own = stood.own;
  divided = same ∙ stood.divided;
  issued = sym (append_assoc (begun_writes stood.layout stood.layout.stores) (issued_since stood.run) (item_rows item))
      ∙ ap (λ (all : List Row). all ++ item_rows item) stood.issued
      ∙ ap (λ (last : List Row). (halves bound rows ++ written) ++ last) are
      ∙ append_assoc (halves bound rows) written more;
}

-- the node that joins a range is none of the machine's
none-own : {rows written : List Row} {bound : List ℕ} {ranges : RangesView} {machine : MachineView}
    (stood : HaveGoneOn rows bound written ranges machine) (s : ℕ) → s < 2 → (mark : ℕ × ℕ)
    → start_of stood.layout s (join_step stood.layout stood.run s) ≡ Some mark → mark.0 ≢ stood.number
none-own {machine = machine} stood s within mark e same =
    let d : NodeView = record { id = 0; last = 0; next = 0; retired = false } in
    let many : length machine.nodes ≡ 2 = stood.writes.many ∙ stood.two in
    let node : NodeView = get_or machine.nodes s d in
    let there : slice_get machine.nodes s ≡ Some node = slice_get-get_or machine.nodes s d (omega (arith, many)) in
    let inside : node.id < numbered (past_of stood.layout s stood.run) = (stood.writes.nodes s node there).inside in
    let own : node.id ≡ stood.number = sym (stood.own s node.id) ∙ stood.writes.machines s node there in
    let number : ℕ = numbered (past_of stood.layout s stood.run) in
    let pair : (stood.layout.machine s number) ≡ mark.0 = cc in
    let is : number ≡ mark.0 = sym (stood.own s number) ∙ pair in omega (arith, is, same, own, inside)

pub joined-on : {rows written : List Row} {bound : List ℕ} {ranges : RangesView} {machine : MachineView}
    (stood : HaveGoneOn rows bound written ranges machine) (new : RangesView)
    → Represents stood.layout new (each_stepped (join_step stood.layout stood.run) stood.layout.stores stood.run)
    → ((layout : Layout) (run : List Turn) (m s : ℕ) (kept : MachineView) (step : Step) → IsMachineOf layout run m kept
    → ((mark : ℕ × ℕ) → start_of layout s step ≡ Some mark → mark.0 ≢ m) → begun (step ∷ []) ≡ []
    → IsMachineOf layout (Stepped s step ∷ run) m kept)
    → new.division ≡ ranges.division → HaveGoneOn rows bound written new machine
joined-on {machine = machine} stood new joined steps same =
    let layout : Layout = stood.layout in
    let step : ℕ → Step = join_step layout stood.run in
    let first : List Turn = Stepped 0 (step 0) ∷ stood.run in
    let one : IsMachineOf layout first stood.number machine =
    steps layout stood.run stood.number 0 machine (step 0) stood.writes (none-own stood 0 (omega arith)) refl in
    record {
      layout = layout;
      run = Stepped 1 (step 1) ∷ first;
      number = stood.number;
      represents = subst (λ n. Represents layout new (each_stepped step n stood.run)) stood.two joined;
      writes = steps layout first stood.number 1 machine (step 1) one (none-own stood 1 (omega arith)) refl;
      two = stood.two;
      own = stood.own;
      divided = same ∙ stood.divided;
      issued = stood.issued;
    }

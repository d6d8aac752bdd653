-- A node whose join is not refused joins: the core represents one more join.
use Rattle.std.proofs.Common.{◌≡◌, ℕ, ◌+◌, ◌<◌, ◌≤◌, List, [], ◌∷◌, ◌++◌, length, max, false, Some, None, refl, ap, sym}
use Rattle.std.proofs.Common.{◌∙◌, inl, inr, arith, length-append}
use Rattle.std.specs.{Prelude.Ok, Prelude.Err, Prelude.⊤, Prelude.nat_le, declared.alloc.AllocError.AllocError}
use Rattle.std.proofs.lemmas.Bool.{cond-true, cond-false, le-leb, lt-leb, le-ltb, lt-ltb, cases_eq, eq-eqb, ne_eqb}
use Rattle.hlc_intake.specs.IntakeView.{IntakeView}
use Rattle.hlc_heads.specs.declared.heads.TheConstants.{MAX_NODES}
use Rattle.hlc_events.specs.declared.fault.CoreFault.TheVariants.{Join, NoMemory}
use Rattle.hlc_heads.specs.declared.heads.JoinFault.{JoinFault, TheVariants.TooManyNodes, TheVariants.BelowFloor}
use Rattle.hlc_core.specs.Past.{Step, Joined, numbered, floor, join_refusal, join_at_refusal}
use Rattle.hlc_core.specs.{StoreView.StoreView, StoreView.Represents, Calls.IsRefusal}
use Rattle.hlc_core.proofs.{PastLemmas.fresh, PastLemmas.unless-none, Links.get-append_left, Links.get-push}
use Rattle.hlc_heads.specs.Heads.{HeadsView, JoinsAt, a_link, floor_of}

abbrev pub with_link : StoreView → ℕ → StoreView
with_link kept start = record kept { links = kept.links ++ a_link 0 start false ∷ []; top = max kept.top start }

-- a node whose join is not refused joins
pub joins : (kept : StoreView) (past : List Step) (node start : ℕ) → Represents kept past
    → join_refusal past ≡ None → node ≡ numbered past → floor past ≤ start
    → Represents (with_link kept start) (Joined node start ∷ past)
joins kept past node start h none is up =
    let link : IntakeView = a_link 0 start false in
    let l : length (kept.links ++ link ∷ []) ≡ length kept.links + 1 = length-append kept.links (link ∷ []) in
    let many : length kept.links ≡ numbered past = h.links.many in
    record {
      legal = (none, is, up, h.legal);
      initial_nodes = h.initial_nodes;
      links = record {
        many = l ∙ ap (λ n. n + 1) many;
        each = λ n lt.
            elim (cases_eq n (length kept.links)) [
              | inl last ↦
                  let none' = fresh past n h.legal (omega (arith, many)) in
                  let hit = eq-eqb node n (is ∙ sym many ∙ sym last) in
                  rw (hit, none'.0, none'.1, last) (get-push kept.links link)
              | inr earlier ↦
                  let miss = ne_eqb node n (λ e. omega (arith, is, many)) in
                  rw miss (get-append_left kept.links (link ∷ []) n (omega (arith, lt, l))
                  ∙ h.links.each n (omega (arith, lt, l)))
            ];
      };
      top = ap (λ t. max t start) h.top;
      snapshots = h.snapshots;
      last_id = h.last_id;
      rows = h.rows;
      stored = h.stored;
      horizon = h.horizon;
    }

-- a join is not refused if a number is left
pub joins-none : (past : List Step) (many : ℕ) → many < MAX_NODES → many ≡ numbered past
    → join_refusal past ≡ None
joins-none past many few is = cond-false _ _ _ (lt-leb MAX_NODES (numbered past) (omega (arith, is)))

-- nor if its start is not below the floor
pub joins-at_none : (past : List Step) (start : ℕ) → join_refusal past ≡ None
    → floor past ≤ start → join_at_refusal past start ≡ None
joins-at_none past start none up =
    let full = unless-none (nat_le MAX_NODES (numbered past)) (Join TooManyNodes) None none in
    cond-false _ _ _ full.0 ∙ cond-false _ _ _ (le-ltb start (floor past) up)

-- and a refusal of the heads is the expected one
pub refused : (past : List Step) (old new : HeadsView) (start : ℕ) (fault : JoinFault)
    → length old.links ≡ numbered past → floor_of old ≡ floor past → JoinsAt old new start (Ok (Err fault))
    → IsRefusal (join_at_refusal past start) ⊤ (Join fault)
refused past old new start TooManyNodes many at h =
    inl (cond-true _ _ _ (le-leb MAX_NODES (numbered past) (omega (arith, many, h.0))))
refused past old new start (BelowFloor low) many at h =
    inl (cond-false _ _ _ (lt-leb MAX_NODES (numbered past) (omega (arith, many, h.0)))
    ∙ cond-true _ _ _ (lt-ltb start (floor past) (omega (arith, at, h.1, h.2)))
    ∙ ap (λ f. Some (Join (BelowFloor f))) (sym (h.1 ∙ at)))

-- or memory ran out where none is expected
pub shortage : (past : List Step) (old new : HeadsView) (start : ℕ) (error : AllocError)
    → length old.links ≡ numbered past → floor_of old ≡ floor past → JoinsAt old new start (Err error)
    → IsRefusal (join_at_refusal past start) ⊤ NoMemory
shortage past old new start error many at h = inr (
  joins-at_none past start (joins-none past (length old.links) h.0 many) (omega (arith, at, h.1)),
  refl,
  tt,
)

-- a pair is its parts
pub both : (made : ℕ × ℕ) (x y : ℕ) → made.0 ≡ x → made.1 ≡ y → made ≡ (x, y)
both made x y p q = ap (λ a. (a, made.1)) p ∙ ap (λ b. (x, b)) q

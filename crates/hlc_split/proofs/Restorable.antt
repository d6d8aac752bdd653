-- Some of the rows of a checkpoint ascend as its rows do, so a part of it is a checkpoint.
use Rattle.std.proofs.Common.{◌≡◌, ℕ, Bool, true, false, cond, List, [], ◌∷◌, filter, Less, Ordering}
use Rattle.std.{specs.List.AllByRecursion, specs.List.Sorted.IsStrictlySortedBy, proofs.lemmas.List.Elements.All-filter}
use Rattle.hlc_rows.specs.declared.row.Row.{Row}
use Rattle.hlc_table_column.proofs.FlagLemmas.{filter-IsRowSet}
use Rattle.hlc_witness.specs.{Certificate.row_cmp, Cost.IsInLimits}
use Rattle.hlc_core.specs.StoreView.{StoreView}
use Rattle.hlc_checkpoint.specs.{StoreView.IsUnderHead, Checkpoint.IsCheckpoint}
use Rattle.hlc_split.specs.Split.{part_of}

all-filter : {X : Type 0} (P : X → Type 0) (p : X → Bool) (xs : List X) → AllByRecursion P xs
    → AllByRecursion P (filter p xs)
all-filter P p [] h = tt
all-filter P p (x ∷ xs) h =
    elim (p x) as (λ b. AllByRecursion P (cond b (x ∷ filter p xs) (filter p xs))) [
      | true ↦ (h.0, all-filter P p xs h.1)
      | false ↦ all-filter P p xs h.1
    ]

pub sorted-filter : {X : Type 0} (c : X → X → Ordering) (p : X → Bool) (xs : List X) → IsStrictlySortedBy c xs
    → IsStrictlySortedBy c (filter p xs)
unfolding IsStrictlySortedBy
sorted-filter c p [] h = tt
sorted-filter c p (x ∷ xs) h =
    elim (p x) as (λ b. IsStrictlySortedBy c (cond b (x ∷ filter p xs) (filter p xs))) [
      | true ↦ (all-filter (λ y. c x y ≡ Less) p xs h.0, sorted-filter c p xs h.1)
      | false ↦ sorted-filter c p xs h.1
    ]

-- some of the rows of a checkpoint, with all else of it
pub part-is_checkpoint : (kept : StoreView) (is_of : List ℕ → Bool) → IsCheckpoint kept
    → IsCheckpoint (part_of is_of kept)
part-is_checkpoint kept is_of is =
    let is_in : Row → Bool = λ row. is_of row.key in
    record {
      store = record {
        consistent = record {
          opened = is.store.consistent.opened;
          row_set = filter-IsRowSet is_in kept.rows is.store.consistent.row_set;
          stored = All-filter is_in (IsUnderHead kept.links) kept.rows is.store.consistent.stored;
        };
        sound = record {
          nodes = is.store.sound.nodes;
          stamps = is.store.sound.stamps;
          last = is.store.sound.last;
          top = is.store.sound.top;
          horizon = is.store.sound.horizon;
          limits = All-filter is_in IsInLimits kept.rows is.store.sound.limits;
        };
        register = is.store.register;
      };
      ascend = sorted-filter row_cmp is_in kept.rows is.ascend;
    }

-- The state of a store may have other rows; a copy of it, with its rows in order, is a checkpoint; and nothing is
-- against a checkpoint.
use Rattle.std.proofs.Common.{◌≡◌, ℕ, suc, ◌<◌, List, [], ◌∷◌, Bool, sym, subst, arith, IsPermutation, ltb, All}
use Rattle.std.proofs.lemmas.List.{Elements.All-filter, Sorted.All-permutation, Sorted.IsPermutation-keeps}
use Rattle.hlc_rows.specs.{declared.row.Row.Row, Rows.IsRowSet, Rows.IsSameVersion}
use Rattle.hlc_table_column.proofs.FlagLemmas.{filter-IsRowSet}
use Rattle.hlc_witness.specs.{Certificate.RowsAscend, Cost.AreInLimits, Cost.IsInLimits}
use Rattle.hlc_witness.proofs.CertificateLemmas.{ascending_rows_are_a_row_set}
use Rattle.hlc_checkpoint.specs.StoreView.{StoreView, IsUnderHead, with_rows}
use Rattle.hlc_checkpoint.specs.{declared.checkpoint.RestoreFault.RestoreFault, Sorted.AreRowsAbove, Sorted.rows_above}
use Rattle.hlc_checkpoint.specs.Checkpoint.{IsCheckpoint, IsCheckpointOf, IsCopyOf, IsCopyAbove, IsFirstReason, IsStore}
use Rattle.hlc_checkpoint.specs.Checkpoint.{IsStoreHead, floor_in}
use Rattle.hlc_checkpoint.proofs.AscendLemmas.{AreApart, apart, apart-swap}
use Rattle.hlc_checkpoint.specs.declared.checkpoint.RestoreFault.TheVariants as reasons

from_apart : (rows : List Row) → AreApart rows → IsRowSet rows
from_apart [] h = tt
from_apart (row ∷ rows) h = (
  λ other (k, lt, e) same.
      h 0 (suc k) other (omega arith) (omega (arith, lt)) (subst (λ r. IsSameVersion row r) (sym e) same),
  from_apart rows (λ i j d less within same. h (suc i) (suc j) d (omega (arith, less)) (omega (arith, within)) same),
)

pub row_set-moved : (rows moved : List Row) → IsRowSet rows → IsPermutation rows moved → IsRowSet moved
row_set-moved rows moved h moves =
    from_apart moved (IsPermutation-keeps rows AreApart (apart rows h) apart-swap moved moves)

-- the state of a store is one with other rows too: no two of them are one version, none is above the head of its node,
-- and an item may write each
pub store-with : (kept : StoreView) (rows : List Row) → IsStore kept → IsRowSet rows
    → All (IsUnderHead kept.links) rows → AreInLimits rows → IsStore (with_rows kept rows)
store-with kept rows store row_set stored limits = record {
  consistent = record { opened = store.consistent.opened; row_set = row_set; stored = stored };
  sound = record {
    nodes = store.sound.nodes;
    stamps = store.sound.stamps;
    last = store.sound.last;
    top = store.sound.top;
    horizon = store.sound.horizon;
    limits = limits;
  };
  register = store.register;
}

-- so a copy of it is one
pub store-copy : (kept copy : StoreView) → IsStore kept → IsCopyOf kept copy → IsStore copy
store-copy kept copy store is =
    subst IsStore {x = with_rows kept copy.rows} (sym is.same)
    (store-with kept copy.rows store (row_set-moved kept.rows copy.rows store.consistent.row_set is.rows)
    (All-permutation (IsUnderHead kept.links) kept.rows copy.rows is.rows store.consistent.stored)
    (All-permutation IsInLimits kept.rows copy.rows is.rows store.sound.limits))

-- and a copy with its rows in order is a checkpoint
pub store-checkpoint : (kept copy : StoreView) → IsStore kept → IsCheckpointOf kept copy → IsCheckpoint copy
store-checkpoint kept copy store is = record { store = store-copy kept copy store is.copy; ascend = is.ascend }

-- and so is the state with its rows above a stamp alone, in order
pub store-above : (since : ℕ) (kept copy : StoreView) → IsStore kept → IsCopyAbove since kept copy → IsCheckpoint copy
store-above since kept copy store is =
    let above : Row → Bool = λ row. ltb since row.stamp in
    store-checkpoint (with_rows kept (rows_above since kept.rows)) copy
    (store-with kept (rows_above since kept.rows) store (filter-IsRowSet above kept.rows store.consistent.row_set)
    (All-filter above (IsUnderHead kept.links) kept.rows store.consistent.stored)
    (All-filter above IsInLimits kept.rows store.sound.limits))
    (record { copy = record { same = is.same; rows = is.rows.same }; ascend = is.rows.ascend })

-- if nothing but the rows can be the reason, and they ascend, each under its head and in limits, it is a checkpoint
pub head-checkpoint : (kept : StoreView) → IsStoreHead kept → RowsAscend kept.rows
    → All (IsUnderHead kept.links) kept.rows → AreInLimits kept.rows → IsCheckpoint kept
head-checkpoint kept head ascend stored limits = record {
  store = store-with (with_rows kept []) kept.rows head (ascending_rows_are_a_row_set kept.rows ascend) stored limits;
  ascend = ascend;
}

-- the same state with a list of its rows in order
pub listed : (kept store made : StoreView) (rows : List Row) → store ≡ kept
    → made ≡ with_rows store made.rows → made.rows ≡ rows → IsPermutation kept.rows rows
    → RowsAscend rows → IsCheckpointOf kept made
listed kept store made rows of same is moved up = record {
  copy = record {
    same = subst (λ (k : StoreView). made ≡ with_rows k made.rows) of same;
    rows = subst (IsPermutation kept.rows) (sym is) moved;
  };
  ascend = subst RowsAscend (sym is) up;
}

-- and with a list of those above a stamp
pub listed-above : (since : ℕ) (kept store made : StoreView) (rows : List Row) → store ≡ kept
    → made ≡ with_rows store made.rows → made.rows ≡ rows → AreRowsAbove kept.rows since rows
    → IsCopyAbove since kept made
listed-above since kept store made rows of same is above = record {
  same = subst (λ (k : StoreView). made ≡ with_rows k made.rows) of same;
  rows = subst (AreRowsAbove kept.rows since) (sym is) above;
}

-- there is no reason against a checkpoint
pub sound-has_no_reason : (kept : StoreView) (fault : RestoreFault) → IsCheckpoint kept → IsFirstReason kept fault → ⊥
sound-has_no_reason kept reasons.NodesOutOfRange is reason = reason is.store.sound.nodes
sound-has_no_reason kept reasons.NumberAboveHead is reason = reason.1 is.store.sound.stamps
sound-has_no_reason kept reasons.RetiredWithoutItem is reason = reason.2 is.store.sound.last
sound-has_no_reason kept reasons.SnapshotsNotRising is reason = reason.1 is.store.register
sound-has_no_reason kept reasons.SnapshotAboveFloor is reason = reason.2 is.store.consistent.opened
sound-has_no_reason kept reasons.HorizonAboveFloor is reason =
    (let up : floor_in kept < kept.horizon = reason.3 in let low = is.store.sound.horizon in omega (arith, up, low))
sound-has_no_reason kept reasons.RowsNotAscending is reason = reason.1 is.ascend
sound-has_no_reason kept reasons.RowAboveHead is reason = reason.2 is.store.consistent.stored
sound-has_no_reason kept reasons.RowOutOfLimits is reason = reason.3 is.store.sound.limits

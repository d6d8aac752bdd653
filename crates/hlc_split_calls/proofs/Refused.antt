-- What was read is no checkpoint after it was divided or joined, so no bytes were made.
use Rattle.std.proofs.Common.{◌≡◌, ℕ, List, inl, inr, subst}
use Rattle.hlc_core.specs.{StoreView.StoreView, Checkpoint.IsCheckpoint}
use Rattle.hlc_split.specs.{Merge.AreJoinable, Split.is_under, Split.is_from, Split.part_of}
use Rattle.hlc_split_calls.specs.Halves.{IsRead, IsNoCheckpoint, IsNotDivided, IsNotJoined, join_of}

pub not_below : (bytes key : List ℕ) (own code word : ℕ) (kept made : StoreView) → IsRead bytes own kept
    → made ≡ part_of (is_under key) kept → IsNoCheckpoint made code word → IsNotDivided bytes key code word
not_below bytes key own code word kept made read is none =
    inr (own, kept, read, inl (subst (λ (it : StoreView). IsNoCheckpoint it code word) is none))

pub not_rest : (bytes key : List ℕ) (own code word : ℕ) (kept lower made : StoreView) → IsRead bytes own kept
    → lower ≡ part_of (is_under key) kept → IsCheckpoint lower → made ≡ part_of (is_from key) kept
    → IsNoCheckpoint made code word → IsNotDivided bytes key code word
not_rest bytes key own code word kept lower made read below sound is none =
    inr (
      own,
      kept,
      read,
      inr (
        subst IsCheckpoint below sound,
        subst (λ (it : StoreView). IsNoCheckpoint it code word) is none,
      ),
    )

pub not_joined : (left right : List ℕ) (own other code word : ℕ) (lower upper made : StoreView)
    → IsRead left own lower → IsRead right other upper → AreJoinable lower upper
    → made ≡ join_of lower upper → IsNoCheckpoint made code word → IsNotJoined left right code word
not_joined left right own other code word lower upper made read read' fit is none =
    inr (
      own,
      lower,
      read,
      inr (
        other,
        upper,
        read',
        inr (fit, subst (λ (it : StoreView). IsNoCheckpoint it code word) is none),
      ),
    )

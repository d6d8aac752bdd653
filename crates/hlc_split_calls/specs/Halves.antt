-- How the bytes of the halves of a checkpoint are returned, and those of what two checkpoints are joined into.
use Rattle.std.specs.Prelude.{◌≡◌, ℕ, ◌⊎◌, List, Ok, Err, ◌++◌}
use Rattle.hlc_wire.specs.{declared.fault.WireFault.WireFault, Faults.fault_code}
use Rattle.hlc_core.specs.StoreView.{StoreView, with_rows}
use Rattle.hlc_checkpoint.specs.Checkpoint.{IsCheckpoint, IsFirstReason}
use Rattle.hlc_checkpoint.specs.{RestoreFaults.fault_code as reason_code, declared.checkpoint.RestoreFault.RestoreFault}
use Rattle.hlc_body.specs.Reading.{saved}
use Rattle.hlc_saved.specs.Saved.{AreOf}
use Rattle.hlc_split.specs.{Split.is_under, Split.is_from, Split.part_of, declared.joining.MergeFault.MergeFault}
use Rattle.hlc_split.specs.Merge.{AreJoinable, IsReason, merge_code}

-- the bytes are those of this tag and checkpoint
abbrev pub IsRead : List ℕ → ℕ → StoreView → Type 0
IsRead bytes tag kept = saved bytes ≡ Ok (tag, kept)

-- out of memory
abbrev pub IsShort : ℕ → ℕ → Type 0
IsShort code word = (code ≡ 15) × (word ≡ 0)

-- the first fault of the bytes of a checkpoint is returned; or out of memory
abbrev pub IsNotRead : List ℕ → ℕ → ℕ → Type 0
IsNotRead bytes code word =
    IsShort code word
    ⊎ ((fault : WireFault) × (saved bytes ≡ Err fault) × (code ≡ 106) × (word ≡ fault_code fault))

-- the first reason why the state is no checkpoint is returned; or out of memory, and it is one
abbrev pub IsNoCheckpoint : StoreView → ℕ → ℕ → Type 0
IsNoCheckpoint kept code word =
    (IsShort code word × IsCheckpoint kept)
    ⊎ ((reason : RestoreFault) × IsFirstReason kept reason × (code ≡ 107) × (word ≡ reason_code reason))

-- the bytes are those of the two parts of the checkpoint of these bytes: that of the keys below this one, and that of
-- the others; each has the tag of the whole
pub record AreHalves (bytes key left right : List ℕ) : Type 0 where
  pub tag : ℕ
  pub kept : StoreView
  pub of : IsRead bytes tag kept
  pub below : AreOf left tag (part_of (is_under key) kept)
  pub rest : AreOf right tag (part_of (is_from key) kept)

-- no bytes were made: the checkpoint was not read; or the part below the key is none; or it is one, but the rest is
-- none; or memory ran out
abbrev pub IsNotDivided : List ℕ → List ℕ → ℕ → ℕ → Type 0
IsNotDivided bytes key code word =
    IsNotRead bytes code word
    ⊎ ((own : ℕ) × (kept : StoreView) × IsRead bytes own kept
    × (IsNoCheckpoint (part_of (is_under key) kept) code word
    ⊎ (IsCheckpoint (part_of (is_under key) kept) × IsNoCheckpoint (part_of (is_from key) kept) code word)))

-- the left state with the rows of both, those of the left one first
abbrev pub join_of : StoreView → StoreView → StoreView
join_of left right = with_rows left (left.rows ++ right.rows)

-- the bytes are those of the checkpoint into which those of the left and of the right bytes are joined, with the tag
-- of the left ones
pub record AreJoined (left right bytes : List ℕ) : Type 0 where
  pub tag : ℕ
  pub other : ℕ
  pub lower : StoreView
  pub upper : StoreView
  pub of_left : IsRead left tag lower
  pub of_right : IsRead right other upper
  pub fit : AreJoinable lower upper
  pub spelled : AreOf bytes tag (join_of lower upper)

-- the first reason why both are not joined is returned; or out of memory, and there is none
abbrev pub IsNotMerged : StoreView → StoreView → ℕ → ℕ → Type 0
IsNotMerged lower upper code word =
    (IsShort code word × AreJoinable lower upper)
    ⊎ ((fault : MergeFault) × IsReason lower upper fault × (code ≡ 113) × (word ≡ merge_code fault))

-- no bytes were made: the left one was not read; it was, but not the right one; both were, but not joined; or what they
-- make is no checkpoint
abbrev pub IsNotJoined : List ℕ → List ℕ → ℕ → ℕ → Type 0
IsNotJoined left right code word =
    IsNotRead left code word
    ⊎ ((own : ℕ) × (lower : StoreView) × IsRead left own lower
    × (IsNotRead right code word
    ⊎ ((other : ℕ) × (upper : StoreView) × IsRead right other upper
    × (IsNotMerged lower upper code word
    ⊎ (AreJoinable lower upper × IsNoCheckpoint (join_of lower upper) code word)))))

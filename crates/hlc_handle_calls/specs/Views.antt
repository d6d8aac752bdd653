-- What a read returns that does not copy.
use Rattle.std.specs.Prelude.{◌≡◌, ℕ, List, length, Option, Some, None}
use Rattle.std.specs.Ptr.{null_ptr}
use Rattle.hlc_rows.specs.{declared.row.Row.Row, Rows.answer}
use Rattle.hlc_handle.specs.contracts.found.LentBytes.{the_row}

-- bytes that are lent, and where they lie
abbrev pub Lent : Type 0
Lent = (the_row).Denot

-- no bytes, at null
abbrev pub IsNowhere : ℕ → Lent → Type 0
IsNowhere len lent = (len ≡ 0) × (lent.at ≡ null_ptr) × (lent.value ≡ None)

-- 0, the length, and the value where it lies, for the lifetime of the loan; or 102, where there is none
abbrev pub ViewsAnswer : Option (List ℕ) → ℕ → ℕ → ℕ → Lent → Type 0
ViewsAnswer None loan code len lent = (code ≡ 102) × IsNowhere len lent
ViewsAnswer (Some value) loan code len lent = (code ≡ 0) × (len ≡ length value) × (lent.value ≡ Some (loan, value))

-- the answer at the stamp of the snapshot; or 10, where there is none
abbrev pub ReturnsView : Option ℕ → List Row → List ℕ → ℕ → ℕ → ℕ → Lent → Type 0
ReturnsView None rows key loan code len lent = (code ≡ 10) × IsNowhere len lent
ReturnsView (Some stamp) rows key loan code len lent = ViewsAnswer (answer rows key stamp) loan code len lent

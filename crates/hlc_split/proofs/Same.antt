-- What `==` says of lists, where it decides whether two elements are the same.
use Rattle.std.proofs.Common.{◌≡◌, ℕ, Bool, List, ap, ◌∙◌}
use Rattle.std.{specs.Bool.Decides, specs.Cmp.Lexicographic.pointwise, proofs.lemmas.Slice.Eq.slice_eq-Decides}
use Rattle.hlc_intake.specs.IntakeView.{IntakeView}
use Rattle.hlc_snapshot.specs.declared.snapshot.Snapshot.{Snapshot}

pub by_elements : {A : Type 0} {E : A → A → Bool} → (r : Bool) (xs ys : List A) → r ≡ pointwise E xs ys
    → ((a b : A) → Decides (E a b) (a ≡ b)) → Decides r (xs ≡ ys)
by_elements r xs ys is each = slice_eq-Decides each xs ys r is

abbrev link : ℕ → ℕ → Bool → IntakeView
link n h r = record { next = n; head = h; retired = r }

pub same_link : (a b : IntakeView) → a.next ≡ b.next → a.head ≡ b.head → a.retired ≡ b.retired → a ≡ b
same_link a b e f g =
    ap (λ (n : ℕ). link n a.head a.retired) e ∙ ap (λ (h : ℕ). link b.next h a.retired) f
    ∙ ap (λ (r : Bool). link b.next b.head r) g

abbrev snapshot : ℕ → ℕ → Snapshot
snapshot n s = record { id = n; stamp = s }

pub same_snapshot : (a b : Snapshot) → a.id ≡ b.id → a.stamp ≡ b.stamp → a ≡ b
same_snapshot a b e f =
    ap (λ (n : ℕ). snapshot n a.stamp) e ∙ ap (λ (s : ℕ). snapshot b.id s) f

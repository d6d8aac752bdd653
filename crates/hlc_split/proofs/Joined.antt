-- What two parts of one past are joined into represents the whole past.
use Rattle.std.proofs.Common.{◌≡◌, ℕ, Bool, true, List, ◌++◌, sym, subst, not}
use Rattle.hlc_core.specs.{Past.Step, Past.IsLegal, StoreView.StoreView, StoreView.with_rows}
use Rattle.hlc_split.{specs.Split.RepresentsPart, proofs.Merging.parts-merge}

pub merged_represents : (left right made : StoreView) (past : List Step) (is_of : List ℕ → Bool)
    → made ≡ with_rows left (left.rows ++ right.rows) → IsLegal past
    → RepresentsPart is_of left past → RepresentsPart (λ key. not (is_of key)) right past
    → RepresentsPart (λ _. true) made past
merged_represents left right made past is_of is legal l r =
    subst (λ kept. RepresentsPart (λ _. true) kept past) (sym is) (parts-merge left right past is_of legal l r)

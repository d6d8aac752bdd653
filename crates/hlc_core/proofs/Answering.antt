-- The stored rows answer at an open snapshot as all accepted writes do.
use Rattle.std.proofs.Common.{◌≡◌, ℕ, List, Some, ap, sym, ◌∙◌, Contains}
use Rattle.std.proofs.lemmas.List.Elements.{All-weaker, All-contains_itself}
use Rattle.hlc_values.proofs.MemberLemmas.{Contains-map}
use Rattle.hlc_rows.specs.{declared.row.Row.Row, Rows.answer}
use Rattle.hlc_core.specs.{Past.Step, Past.writes, Past.open_snapshots, StoreView.StoreView, StoreView.Represents}
use Rattle.hlc_snapshot.specs.{declared.snapshot.Snapshot.Snapshot, RegistryView.stamps, RegistryView.stamp_in}
use Rattle.hlc_snapshot.proofs.RegisterLemmas.{stamp_in-all}
use Rattle.hlc_core.specs.{declared.listing.Pair.Pair, Listing.IsListing}
use Rattle.hlc_core.specs.Differences.{Difference, AreDifferences, Compares}
use Rattle.hlc_core.proofs.DifferenceLemmas.{differences-alike}

-- an open snapshot is at one of the open stamps, so the rows answer there as all accepted writes do
pub answer-alike : (kept : StoreView) (past : List Step) (id stamp : ℕ)
    → Represents kept past → stamp_in id kept.snapshots ≡ Some stamp → (key : List ℕ)
    → answer kept.rows key stamp ≡ answer (writes past) key stamp
answer-alike kept past id stamp h there key =
    h.rows.at_open key stamp
    (stamp_in-all (λ stamp. Contains (stamps (open_snapshots past)) stamp) id stamp (open_snapshots past)
    (All-weaker (Contains (open_snapshots past)) (λ snapshot. Contains (stamps (open_snapshots past)) snapshot.stamp)
    (λ snapshot m. Contains-map (λ (x : Snapshot). x.stamp) (open_snapshots past) snapshot m) (open_snapshots past)
    (All-contains_itself (open_snapshots past)))
    (ap (stamp_in id) (sym h.snapshots) ∙ there))

-- and the listings are the same
pub lists-alike : (rows others : List Row) (stamp : ℕ) (listing : List Pair)
    → ((key : List ℕ) → answer rows key stamp ≡ answer others key stamp) → IsListing rows stamp listing
    → IsListing others stamp listing
lists-alike rows others stamp listing alike is = record {
  ascending = is.ascending;
  exact = λ key value. (λ m. sym (alike key) ∙ (is.exact key value).0 m, λ e. (is.exact key value).1 (alike key ∙ e));
}

-- so the differences of the stored rows are those of all accepted writes
pub compares-alike : (kept : StoreView) (past : List Step) (from to before after : ℕ) (IsWanted : List ℕ → Type 0)
    (differences : List Difference) → Represents kept past → stamp_in from kept.snapshots ≡ Some before
    → stamp_in to kept.snapshots ≡ Some after → AreDifferences kept.rows before after IsWanted differences
    → Compares from to past IsWanted (Some differences)
compares-alike kept past from to before after IsWanted differences h first second are = (
  before,
  after,
  ap (stamp_in from) (sym h.snapshots) ∙ first,
  ap (stamp_in to) (sym h.snapshots) ∙ second,
  differences-alike kept.rows (writes past) before after IsWanted differences
      (answer-alike kept past from before h first) (answer-alike kept past to after h second) are,
)

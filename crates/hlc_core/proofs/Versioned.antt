-- The stored rows of a key are accepted writes, and above the horizon they are all of them.
use Rattle.std.{proofs.Common.ℕ, proofs.Common.◌≤◌, proofs.Common.List, proofs.Common.arith, specs.Prelude.Contains}
use Rattle.hlc_table_column.specs.{Cells.Cell, Rows.row_of, Versions.AreVersions}
use Rattle.hlc_core.specs.{Past.Step, Past.writes, Past.horizon, StoreView.StoreView, StoreView.Represents}

pub versions-accepted : (kept : StoreView) (past : List Step) (key : List ℕ) (from to : ℕ) (versions : List Cell)
    → Represents kept past → AreVersions kept.rows key from to versions → (version : Cell)
    → Contains versions version → Contains (writes past) (row_of key version)
versions-accepted kept past key from to versions h are version m =
    h.rows.within (row_of key version) ((are.exact version).0 m).0

pub versions-all : (kept : StoreView) (past : List Step) (key : List ℕ) (from to : ℕ) (versions : List Cell)
    → Represents kept past → AreVersions kept.rows key from to versions → horizon past ≤ from
    → AreVersions (writes past) key from to versions
versions-all kept past key from to versions h are low = record {
  newest_first = are.newest_first;
  exact = λ version. (
    λ m.
        let at = (are.exact version).0 m in (h.rows.within (row_of key version) at.0, at.1, at.2),
    λ (m, above, below).
        (are.exact version).1 (h.rows.above (row_of key version) m (omega (arith, low, above)), above, below),
  );
}

-- How the versions of a key are returned.
use Rattle.std.specs.Prelude.{◌≡◌, ◌≤◌, ℕ, List, ◌++◌, length, Contains}
use Rattle.std.specs.Int.{to_le_bytes, w16, w64}
use Rattle.hlc_table_column.specs.{Cells.Cell, Rows.row_of}
use Rattle.hlc_core.specs.{Calls.AreVersions, Past.Step, Past.horizon, Past.writes}
use Rattle.hlc_core.specs.StoreView.{StoreView, Represents}
use Rattle.hlc_range_calls.specs.{Listing.answer_bytes, Listing.narrowed, Listing.IsCopied, Scan.parts_bytes}

-- a stamp, a node, both the low byte first, and the value, or none for a deletion
abbrev pub version_bytes : Cell → List ℕ
version_bytes version =
    to_le_bytes w64 version.stamp ++ (to_le_bytes w16 version.node ++ answer_bytes version.value)

-- the rows of a key above one stamp and at or below another, the newest first: those that are stored, and all of these
-- are accepted writes; from the horizon on they are all accepted writes there
pub record AreRead (core : StoreView) (key : List ℕ) (above to : ℕ) (versions : List Cell) : Type 0 where
  pub stored : AreVersions core.rows key above to versions
  pub accepted : (past : List Step) → Represents core past → (version : Cell)
      → Contains versions version → Contains (writes past) (row_of key version)
  pub all : (past : List Step) → Represents core past → horizon past ≤ above
      → AreVersions (writes past) key above to versions

-- they are returned: how many there are, how many bytes they take, and the bytes, if all fit
abbrev pub ReturnsVersions
    : StoreView → List ℕ → ℕ → ℕ → ℕ → ℕ → ℕ → List ℕ → List ℕ → Type 0
ReturnsVersions core key above to code len many old new =
    (code ≡ 0) × ((versions : List Cell) × AreRead core key above to versions × (many ≡ narrowed (length versions))
    × (len ≡ narrowed (length (parts_bytes version_bytes versions)))
    × IsCopied (parts_bytes version_bytes versions) old new)

-- The store as an open snapshot sees it.
use Rattle.std.specs.Prelude.{◌≡◌, ℕ, List, Option, Some, None}
use Rattle.hlc_rows.specs.Rows.{answer}
use Rattle.hlc_columns.specs.View.{Seen}
use Rattle.hlc_core.specs.Past.{Step, stamp_of, writes}

-- the view has the snapshot's stamp, and for each key the answer of all accepted writes there; or no such snapshot is
-- open, and there is none
abbrev pub Views : ℕ → List Step → Option Seen → Type 0
Views id past None = stamp_of id past ≡ None
Views id past (Some seen) =
    (stamp_of id past ≡ Some seen.stamp)
    × ((key : List ℕ) → answer seen.rows key seen.stamp ≡ answer (writes past) key seen.stamp)

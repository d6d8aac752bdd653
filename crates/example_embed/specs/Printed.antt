-- What the program prints about a store that represents what took place.
use Rattle.std.specs.Prelude.{◌≡◌, ℕ, List, ◌∷◌, ◌++◌, codes, Option, Some, None}
use Rattle.hlc.specs.Certificate.{Witness, AreChanges, ShownView, certificate_text, IsAnsweredFewest}
use Rattle.hlc.specs.{Node.Row, Node.answer, Text.stamp_text, Text.Watched, Text.bytes_token, Text.printed, Text.Writes}
use Rattle.hlc.specs.Store.{Step, Vacuumed, floor, writes, StoreView, Represents, AreVacuumPoints, AreRowsTo}

-- a value, or that there is none, after a space
abbrev pub value_text : Option (List ℕ) → List ℕ
value_text None = codes " none"
value_text (Some value) = codes " value " ++ bytes_token value

-- the line of a read: the key, the snapshot's stamp, and the answer there
abbrev pub read_line : List ℕ → ℕ → Option (List ℕ) → List ℕ
read_line key stamp value =
    ((codes "read " ++ bytes_token key) ++ (codes " at " ++ stamp_text stamp)) ++ value_text value

-- the read of a key at a stamp, as all accepted writes answer it
abbrev pub read_text : List Step → List ℕ → ℕ → List ℕ
read_text past key stamp = printed (read_line key stamp (answer (writes past) key stamp))

-- A text is the certificate of a vacuum after this past, which left these rows: it has the vacuum's points, the rows up
-- to the floor in their order, and the changes of all accepted writes at the points.
pub record Certifies (past : List Step) (left : List Row) (text : List ℕ) : Type 0 where
  pub points : List ℕ
  pub rows : List Row
  pub changes : List Witness
  pub are_points : AreVacuumPoints (floor past) past points
  pub are_rows : AreRowsTo left (floor past) rows
  pub are_changes : AreChanges (writes past) points changes
  pub spelled : text ≡ certificate_text points rows changes

-- The city was read at two stamps from a store that represents what took place; after that comes the certificate of the
-- vacuum that took place next, which a check answers with this number of rows as the fewest.
pub record PrintsStory {W : Type 0} (contents : W → Option (List ℕ)) (old new : Watched W) (shown : ShownView) : Type
    0 where
  pub core : StoreView
  pub past : List Step
  pub represents : Represents core past
  pub vacuumed : StoreView
  pub represents_vacuumed : Represents vacuumed (Vacuumed (floor past) ∷ past)
  pub early : ℕ
  pub late : ℕ
  pub certificate : List ℕ
  pub wrote : Writes contents old new
      ((read_text past (codes "city") early ++ read_text past (codes "city") late) ++ certificate)
  pub certifies : Certifies past vacuumed.rows certificate
  pub answered : IsAnsweredFewest certificate shown.rows shown.cost

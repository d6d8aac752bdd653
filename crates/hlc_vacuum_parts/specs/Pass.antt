-- A pass: parts of a vacuum one after another, with nothing in between, from the first key to the last.
use Rattle.std.specs.Prelude.{◌≡◌, ℕ, ◌+◌, List, [], ◌∷◌, ◌++◌, Option, None, Ok, MatchOption}
use Rattle.hlc_vacuum_draft.specs.declared.report.Report.{Report}
use Rattle.hlc_core.specs.Past.{Step, PartVacuumed}
use Rattle.hlc_core.specs.StoreView.{StoreView}
use Rattle.hlc_core.specs.Parts.{VacuumsPart}

-- a part that was made: of how many keys at most, its report, where it ended, and the store that it left
pub record Part : Type 0 where
  pub limit : ℕ
  pub report : Report
  pub end : Option (List ℕ)
  pub left : StoreView

-- Parts of a vacuum to a stamp that were made of a store after this past, one after another. The first begins above
-- this key, each other one where the one before it ended, and the last one ended nowhere: no key is left.
abbrev pub ArePass : StoreView → ℕ → List ℕ → List Step → Part → List Part → Type 0
ArePass old at after past part [] =
    VacuumsPart old part.left at after part.limit past (Ok (part.report, part.end)) × (part.end ≡ None)
ArePass old at after past part (next ∷ parts) =
    VacuumsPart old part.left at after part.limit past (Ok (part.report, part.end))
    × MatchOption part.end ⊥
    (λ key. ArePass part.left at key (PartVacuumed at part.report.dropped ∷ past) next parts)

-- the store that the last part left
abbrev pub left_by : Part → List Part → StoreView
left_by part [] = part.left
left_by part (next ∷ parts) = left_by next parts

-- two reports of one stamp together: the sums of their numbers, and the changes of both
abbrev pub together : Report → Report → Report
together first rest = record {
  floor = first.floor;
  points = first.points;
  kept = first.kept + rest.kept;
  bytes = first.bytes + rest.bytes;
  dropped = first.dropped + rest.dropped;
  witnesses = first.witnesses ++ rest.witnesses;
}

-- the reports of all parts together
abbrev pub report_of : Part → List Part → Report
report_of part [] = part.report
report_of part (next ∷ parts) = together part.report (report_of next parts)

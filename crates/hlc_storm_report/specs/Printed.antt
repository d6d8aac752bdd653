-- The lines that report on a storm, and the exit status that goes with them.
use Rattle.std.specs.Prelude.{ℕ, ◌+◌, Bool, true, false, List, [], ◌∷◌, ◌++◌, map, codes, decimal, Result, Ok, Err}
use Rattle.std.specs.List.{flat_map}
use Rattle.hlc_clock.specs.Stamp.{stamp_text}
use Rattle.hlc_text.specs.Text.{bytes_token, printed}
use Rattle.hlc_core.specs.declared.listing.Pair.{Pair}
use Rattle.hlc_server.specs.declared.entry.NotDone.TheVariants.{NumbersSpent, NoMemory as NoGrowth}
use Rattle.hlc_server.specs.declared.settle.SettleFault.TheVariants.{NoTrail, ReceiptMismatch}
use Rattle.hlc_server.specs.declared.end.WorkEnd.{WorkEnd, TheVariants.Spent}
use Rattle.hlc_storm_report.specs.declared.report.{StormReport.StormReport, StormFault.StormFault}
use Rattle.hlc_storm_report.specs.declared.report.StormFault.TheVariants.{Work, Settle, NoMemory}

-- how many items of a node were accepted
abbrev pub accepted_line : ℕ → ℕ → List ℕ
accepted_line node count = (codes "accepted " ++ decimal node) ++ (codes " " ++ decimal count)

-- the same for each node from this one on
abbrev pub accepted_lines : ℕ → List ℕ → List (List ℕ)
accepted_lines node [] = []
accepted_lines node (count ∷ counts) = accepted_line node count ∷ accepted_lines (node + 1) counts

-- a key that has a value at the floor, with that value
abbrev pub storm_pair_line : Pair → List ℕ
storm_pair_line pair = bytes_token pair.key ++ (codes " " ++ bytes_token pair.value)

-- what is printed for a storm that settled
abbrev pub report_text : StormReport → List ℕ
report_text report =
    flat_map printed (accepted_lines 0 report.accepted.items)
    ++ (printed (codes "floor " ++ stamp_text report.floor)
    ++ (flat_map printed (map storm_pair_line report.pairs)
    ++ (printed (codes "kept " ++ decimal report.kept) ++ printed (codes "history legal"))))

-- the refusal for a worker that was not done
abbrev pub work_line : WorkEnd → List ℕ
work_line (Spent NumbersSpent) = codes "refused 14"
work_line (Spent NoGrowth) = codes "refused 15"
work_line _ = codes "refused 23"

-- the refusal for a storm that did not settle
abbrev pub storm_fault_line : StormFault → List ℕ
storm_fault_line (Work end) = work_line end
storm_fault_line (Settle NoTrail) = codes "refused 24"
storm_fault_line (Settle (ReceiptMismatch index)) = codes "refused 21 index " ++ decimal index
storm_fault_line NoMemory = codes "refused 15"

-- all that is printed for a storm
abbrev pub storm_text : Result StormReport StormFault → List ℕ
storm_text (Ok report) = report_text report
storm_text (Err fault) = printed (storm_fault_line fault)

-- the exit status: 3 where the writer failed, otherwise 0 for a storm that settled, and 2 for one that did not
abbrev pub storm_status : Bool → Result StormReport StormFault → ℕ
storm_status true outcome = 3
storm_status false (Ok report) = 0
storm_status false (Err fault) = 2

-- The same of histories of a store that began with a past.
use Rattle.std.proofs.Common.{◌≡◌, ℕ, ◌≤◌, List, [], ◌∷◌, ◌++◌, length, Option, Some, None, refl, ap, sym, ◌∙◌, subst}
use Rattle.std.proofs.Common.{arith, Contains}
use Rattle.hlc_rows.specs.{declared.row.Row.Row, Rows.answer, Rows.newest, Rows.IsNoLater}
use Rattle.hlc_rows.proofs.NewestLemmas.{newest_is_greatest, no_newest_no_row}
use Rattle.hlc_witness.specs.Cost.{changes_cost, rows_cost}
use Rattle.hlc_witness.proofs.ChangeLemmas.{changes_force_rows}
use Rattle.hlc_witness.proofs.CostLemmas.{changes_force_bytes}
use Rattle.hlc_core.specs.Past.{Step, floor, stamp_of, writes, IsLegal}
use Rattle.hlc_vacuum_draft.specs.declared.report.Report.{Report}
use Rattle.hlc_core.specs.{Stored.IsReport, Stored.LeavesFewest, Listing.IsListing, Calls.IsListed}
use Rattle.hlc_core.specs.{StoreView.StoreView, StoreView.Represents, Parts.IsPartReport, Parts.rows_of_keys}
use Rattle.hlc_events.specs.declared.event.CoreEvent.{CoreEvent}
use Rattle.hlc_events.specs.declared.event.CoreEvent.TheVariants.{Accept, Join, OpenAt, OpenFloor, Read}
use Rattle.hlc_events.specs.declared.event.CoreEvent.TheVariants.{List as ListAll, Close, Vacuum, JoinAt, VacuumTo}
use Rattle.hlc_events.specs.declared.event.CoreEvent.TheVariants.{VacuumPart}
use Rattle.hlc_core.specs.declared.{listing.Pair.Pair, reply.CoreReply.CoreReply}
use Rattle.hlc_core.specs.declared.reply.CoreReply.TheVariants.{Answer, Listing, Vacuumed, VacuumedPart}
use Rattle.hlc_columns.specs.Answers.{in_part}
use Rattle.hlc_core.proofs.ListingLemmas.{one-listing}
use Rattle.hlc_core.proofs.PastLemmas.{body_rows-are, took-writes}
use Rattle.hlc_core.proofs.StayLemmas.{legal-before, snapshots-stay}
use Rattle.hlc_core.proofs.VacuumLemmas.{leaves-fewest}
use Rattle.hlc_core.specs.History.{step_of, with_step, IsAnswer, IsExpected}
use Rattle.hlc_core.specs.Headline.{IsMoment, SnapshotsStay, vacuum_stamp}
use Rattle.hlc_core.specs.From.{past_from, IsLegalFrom, RepresentsFrom, IsLeftFrom, ReadsAreNewestFrom}
use Rattle.hlc_core.specs.From.{VacuumsAreFewestFrom, VacuumsAreCheapestFrom, FewestAreLeftFrom, IsFaithfulFrom}
use Rattle.hlc_core.specs.From.{PartsAreFewestFrom, FewestAreLeftByPartsFrom, SnapshotsShowWholeFrom}

before-legal : (start : List Step) (later before : List (CoreEvent × CoreReply)) → IsLegalFrom start (later ++ before)
    → IsLegalFrom start before
before-legal start [] before legal = legal
before-legal start (entry ∷ later) before legal = before-legal start later before legal.1

-- each moment of a legal history is legal
moment-legal : (start : List Step) (h before : List (CoreEvent × CoreReply)) → IsLegalFrom start h → IsMoment h before
    → IsLegalFrom start before
moment-legal start h before legal moment =
    before-legal start moment.later before (subst (λ x. IsLegalFrom start x) moment.order legal)

answered : (o : Option ℕ) (answers : ℕ → Option (List ℕ)) (value : Option (List ℕ)) → IsAnswer o answers value
    → (stamp : ℕ) × (o ≡ Some stamp) × (value ≡ answers stamp)
answered None answers value is = absurd is
answered (Some stamp) answers value is = (stamp, refl, is)

reads-newest : (start : List Step) (h : List (CoreEvent × CoreReply)) → IsLegalFrom start h → ReadsAreNewestFrom start h
reads-newest start h legal = λ before id key value moment.
    let expected : IsExpected (past_from start before) (Read id key) (Answer value) =
    (moment-legal start h ((Read id key, Answer value) ∷ before) legal moment).0 in
    answered (stamp_of id (past_from start before)) (answer (writes (past_from start before)) key) value expected.1

one-step : (step : Option Step) (more past : List Step)
    → (all : List Step) × (with_step step (more ++ past) ≡ all ++ past)
one-step None more past = (more, refl)
one-step (Some step) more past = (step ∷ more, refl)

-- what took place up to a moment of a history comes first in what took place in all of it
past-before : (start : List Step) (later before : List (CoreEvent × CoreReply))
    → (more : List Step) × (past_from start (later ++ before) ≡ more ++ past_from start before)
past-before start [] before = ([], refl)
past-before start (entry ∷ later) before =
    let rest = past-before start later before in
    let all = one-step (step_of entry.0 entry.1) rest.0 (past_from start before) in
    (all.0, ap (with_step (step_of entry.0 entry.1)) rest.1 ∙ all.1)

-- so it is legal
moment-past : (start : List Step) (h before : List (CoreEvent × CoreReply)) → IsLegal (past_from start h)
    → IsMoment h before
    → IsLegal (past_from start before)
moment-past start h before legal moment =
    let rest = past-before start moment.later before in
    legal-before (past_from start before) rest.0
    (subst (λ past. IsLegal past) (ap (past_from start) moment.order ∙ rest.1) legal)

-- and a snapshot that is open at both moments has the same answers
still-answers : (start : List Step) (later before : List (CoreEvent × CoreReply)) (id stamp again : ℕ)
    → IsLegal (past_from start (later ++ before)) → stamp_of id (past_from start before) ≡ Some stamp
    → stamp_of id (past_from start (later ++ before)) ≡ Some again → (key : List ℕ)
    → answer (writes (past_from start (later ++ before))) key again ≡ answer (writes (past_from start before)) key stamp
still-answers start later before id stamp again =
    let rest = past-before start later before in
    subst (λ all. IsLegal all → stamp_of id (past_from start before) ≡ Some stamp → stamp_of id all ≡ Some again
    → (key : List ℕ) → answer (writes all) key again ≡ answer (writes (past_from start before)) key stamp) (sym rest.1)
    (λ legal is there. (snapshots-stay (past_from start before) rest.0 id stamp again legal is there).1)

listed : (o : Option ℕ) (rows : List Row) (listing : List Pair) → IsListed o rows listing
    → (stamp : ℕ) × (o ≡ Some stamp) × IsListing rows stamp listing
listed None rows listing is = absurd is
listed (Some stamp) rows listing is = (stamp, refl, is)

-- rows with the same answers have the same listing
same-listing : (rows others : List Row) (stamp other : ℕ) (listing : List Pair)
    → ((key : List ℕ) → answer rows key stamp ≡ answer others key other) → IsListing rows stamp listing
    → IsListing others other listing
same-listing rows others stamp other listing same is = record {
  ascending = is.ascending;
  exact = λ key value. (
    λ m. sym (same key) ∙ (is.exact key value).0 m,
    λ e. (is.exact key value).1 (same key ∙ e),
  );
}

-- no answer of a snapshot changes
stays : (start : List Step) (h : List (CoreEvent × CoreReply)) → IsLegalFrom start h → IsLegal (past_from start h)
    → SnapshotsStay h
stays start h legal past = record {
  reads = λ before between id key value again moment.
      let first : List (CoreEvent × CoreReply) = (Read id key, Answer value) ∷ before in
      let all = moment-legal start h ((Read id key, Answer again) ∷ (between ++ first)) legal moment in
      let one = answered (stamp_of id (past_from start before)) (answer (writes (past_from start before)) key) value
      (before-legal start between first all.1).0.1 in
      let later : List Step = past_from start (between ++ first) in
      let two = answered (stamp_of id later) (answer (writes later) key) again all.0.1 in
      two.2
      ∙ still-answers start between first id one.0 two.0
      (moment-past start h ((Read id key, Answer again) ∷ (between ++ first)) past moment) one.1 two.1 key
      ∙ sym one.2;
  listings = λ before between id listing again moment.
      let first : List (CoreEvent × CoreReply) = (ListAll id, Listing listing) ∷ before in
      let all = moment-legal start h ((ListAll id, Listing again) ∷ (between ++ first)) legal moment in
      let one = listed (stamp_of id (past_from start before)) (writes (past_from start before)) listing
      (before-legal start between first all.1).0.1 in
      let later : List Step = past_from start (between ++ first) in
      let two = listed (stamp_of id later) (writes later) again all.0.1 in
      one-listing (writes (past_from start before)) one.0 again listing
      (same-listing (writes (past_from start (between ++ first))) (writes (past_from start before)) two.0 one.0 again
      (still-answers start between first id one.0 two.0
      (moment-past start h ((ListAll id, Listing again) ∷ (between ++ first)) past moment) one.1 two.1) two.2) one.2;
}

-- a reader at or above the stamp of a row sees it or a later one
newest-after : (all : List Row) (stamp : ℕ) (row : Row) → Contains all row → row.stamp ≤ stamp
    → (o : Option Row) → newest all row.key stamp ≡ o
    → (seen : Row) × (newest all row.key stamp ≡ Some seen) × IsNoLater row seen
newest-after all stamp row m low None is = absurd (no_newest_no_row all row.key stamp row is m refl low)
newest-after all stamp row m low (Some seen) is =
    (seen, is, (newest_is_greatest all row.key stamp seen is).greatest row m refl low)

-- each snapshot shows all writes of an item or none of them
shows-whole : (start : List Step) (h : List (CoreEvent × CoreReply)) → SnapshotsShowWholeFrom start h
shows-whole start h = λ before id stamp item moment is took.
    let all = writes (past_from start before) in record {
      shown = λ below row m.
          let same : row.stamp ≡ item.stamp = (body_rows-are item.node item.stamp item.body row m).1 in
          let low : row.stamp ≤ stamp = omega (arith, below, same) in
          newest-after all stamp row (took-writes (past_from start before) item row took m) low
          (newest all row.key stamp) refl;
      hidden = λ above row seen m is.
          let low : seen.stamp ≤ stamp = (newest_is_greatest all row.key stamp seen is).in_bound in
          omega (arith, above, low);
    }

-- only an event that asks for a vacuum has a report as its reply
reported : (past : List Step) (event : CoreEvent) (report : Report)
    → IsExpected past event (Vacuumed report)
    → (at : ℕ) × (vacuum_stamp past event ≡ Some at) × IsReport at past report
reported past (Accept item) report expected = absurd expected.1
reported past Join report expected = absurd expected.1
reported past (OpenAt stamp) report expected = absurd expected.1
reported past OpenFloor report expected = absurd expected.1
reported past (Read id key) report expected = absurd expected.1
reported past (ListAll id) report expected = absurd expected.1
reported past (Close id) report expected = absurd expected.1
reported past (JoinAt first) report expected = absurd expected.1
reported past Vacuum report expected = (floor past, refl, expected.1)
reported past (VacuumTo at) report expected = (at, refl, expected.1)
reported past (VacuumPart at after limit) report expected = absurd expected.1

vacuums-least : (start : List Step) (h : List (CoreEvent × CoreReply)) → IsLegalFrom start h
    → VacuumsAreFewestFrom start h
vacuums-least start h legal = λ before event report moment.
    let bounded = reported (past_from start before) event report
    (moment-legal start h ((event, Vacuumed report) ∷ before) legal moment).0 in
    let expected : IsReport bounded.0 (past_from start before) report = bounded.2 in (
      bounded.0,
      bounded.1,
      expected,
      λ others set' alike.
          let few : length report.witnesses ≤ length others =
          changes_force_rows (writes (past_from start before)) others report.points report.witnesses
          expected.witnesses.ascend expected.witnesses.each alike in
          let kept : report.kept ≡ length report.witnesses = expected.kept in omega arith,
    )

vacuums-cheapest : (start : List Step) (h : List (CoreEvent × CoreReply)) → IsLegalFrom start h
    → VacuumsAreCheapestFrom start h
vacuums-cheapest start h legal = λ before event report moment others set' alike.
    let bounded = reported (past_from start before) event report
    (moment-legal start h ((event, Vacuumed report) ∷ before) legal moment).0 in
    let expected : IsReport bounded.0 (past_from start before) report = bounded.2 in
    let few : changes_cost (writes (past_from start before)) report.witnesses ≤ rows_cost others =
    changes_force_bytes (writes (past_from start before)) others report.points report.witnesses
    expected.witnesses.ascend
    expected.witnesses.each alike in
    let is : report.bytes ≡ changes_cost (writes (past_from start before)) report.witnesses = expected.bytes in
    omega arith

-- the rows that it left are the fewest
left : (start : List Step) (kept : StoreView) (before : List (CoreEvent × CoreReply)) (event : CoreEvent)
    (report : Report)
    → IsExpected (past_from start before) event (Vacuumed report)
    → Represents kept (past_from start ((event, Vacuumed report) ∷ before))
    → LeavesFewest kept.rows (writes (past_from start before)) report
left start kept before (Accept item) report expected core = absurd expected.1
left start kept before Join report expected core = absurd expected.1
left start kept before (OpenAt stamp) report expected core = absurd expected.1
left start kept before OpenFloor report expected core = absurd expected.1
left start kept before (Read id key) report expected core = absurd expected.1
left start kept before (ListAll id) report expected core = absurd expected.1
left start kept before (Close id) report expected core = absurd expected.1
left start kept before (JoinAt first) report expected core = absurd expected.1
left start kept before Vacuum report expected core =
    leaves-fewest kept report.floor (past_from start before) report core
    (subst (λ at. IsReport at (past_from start before) report) (sym expected.1.at_stamp) expected.1)
left start kept before (VacuumTo at) report expected core =
    leaves-fewest kept at (past_from start before) report core expected.1
left start kept before (VacuumPart at after limit) report expected core = absurd expected.1

fewest-left : (start : List Step) (kept : StoreView) (h : List (CoreEvent × CoreReply)) → RepresentsFrom start kept h
    → FewestAreLeftFrom start h kept.rows
fewest-left start kept h represents = λ before event report is.
    let legal : IsLegalFrom start ((event, Vacuumed report) ∷ before) =
    subst (λ x. IsLegalFrom start x) is represents.legal in
    left start kept before event report legal.0 (subst (λ x. Represents kept (past_from start x)) is represents.core)

-- each change of the keys of a part forces a row of them
parts-least : (start : List Step) (h : List (CoreEvent × CoreReply)) → IsLegalFrom start h → PartsAreFewestFrom start h
parts-least start h legal = λ before at after limit report end moment.
    let expected : IsExpected (past_from start before) (VacuumPart at after limit) (VacuumedPart report end) =
    (moment-legal start h ((VacuumPart at after limit, VacuumedPart report end) ∷ before) legal moment).0 in
    let part : IsPartReport at (past_from start before) (in_part after end) report = expected.1.made.2.expected in
    let all : List Row = rows_of_keys (in_part after end) (writes (past_from start before)) in (
      part,
      λ others set' alike. (
        (let few : length report.witnesses ≤ length others =
            changes_force_rows all others report.points report.witnesses part.witnesses.ascend part.witnesses.each
            alike in
            let kept : report.kept ≡ length report.witnesses = part.kept in omega arith),
        (let few : changes_cost all report.witnesses ≤ rows_cost others =
            changes_force_bytes all others report.points report.witnesses part.witnesses.ascend part.witnesses.each
            alike in
            let is : report.bytes ≡ changes_cost all report.witnesses = part.bytes in omega arith),
      ),
    )

-- the rows that a part left of its keys are the fewest
parts-left : (start : List Step) (kept : StoreView) (h : List (CoreEvent × CoreReply)) → RepresentsFrom start kept h
    → FewestAreLeftByPartsFrom start h kept.rows
parts-left start kept h represents = λ before at after limit report end is.
    subst (λ x. IsLeftFrom start x kept.rows) is represents.left

-- a core is faithful to each history that it represents
pub histories_are_faithful : (start : List Step) (kept : StoreView) (h : List (CoreEvent × CoreReply))
    → RepresentsFrom start kept h → IsFaithfulFrom start h kept.rows
histories_are_faithful start kept h represents = record {
  reads = reads-newest start h represents.legal;
  stays = stays start h represents.legal represents.core.legal;
  whole = shows-whole start h;
  vacuums = vacuums-least start h represents.legal;
  bytes = vacuums-cheapest start h represents.legal;
  fewest = fewest-left start kept h represents;
  parts = parts-least start h represents.legal;
  left_by_parts = parts-left start kept h represents;
}

-- The read is of all accepted writes of the key's store, and so of all that were issued.
use Rattle.std.proofs.Common.{◌≡◌, ◌<◌, Some, length, refl, subst, sym, ◌∙◌}
use Rattle.std.specs.Prelude.{slice_get, option_copied, MatchOption, IsErr, IsOkAnd}
use Rattle.std.proofs.lemmas.Option.{slice_get_read}
use Rattle.hlc_rows.specs.Rows.{answer}
use Rattle.hlc_core.specs.Past.{stamp_of, writes}
use Rattle.hlc_ranges.specs.Run.{past_of}
use Rattle.hlc_routing.{specs.Ranges.RangesView, proofs.Reading.newest}
use Rattle.hlc_routing.proofs.ranges.Ranges.read.Goals as goal

pub returns-clause-represents : goal.returns-clause-represents
returns-clause-represents c = λ layout run h.
    let inside = subst (λ (v : RangesView). c.store_of-store.result < length v.stores) (sym c.self.view_is)
    c.store_of-store.ensures.inside in
    let at = subst (λ (v : RangesView). slice_get v.stores c.store_of-store.result ≡ Some c.index.result.now)
    c.self.view_is
    (slice_get_read c.self.inside.stores.items _ c.store_of-store.result c.index.result.now refl inside
    c.index.ensures) in
    subst (λ s. MatchOption (stamp_of c.args.id (past_of layout s run)) (IsErr c.read.result) (λ stamp. IsOkAnd
    c.read.result
    (λ value. option_copied value ≡ answer (writes (past_of layout s run)) c.args.key.now stamp)))
    c.store_of-store.ensures.value
    (c.read.ensures.represents (past_of layout c.store_of-store.result run)
    (h.pasts c.store_of-store.result c.index.result.now at))

pub returns-clause-newest : goal.returns-clause-newest
returns-clause-newest c = λ layout run stamp h cut is.
    let inside = subst (λ (v : RangesView). c.store_of-store.result < length v.stores) (sym c.self.view_is)
    c.store_of-store.ensures.inside in
    let at = subst (λ (v : RangesView). slice_get v.stores c.store_of-store.result ≡ Some c.index.result.now)
    c.self.view_is
    (slice_get_read c.self.inside.stores.items _ c.store_of-store.result c.index.result.now refl inside
    c.index.ensures) in
    let is' = subst (λ s. stamp_of c.args.id (past_of layout s run) ≡ Some stamp)
    (sym c.store_of-store.ensures.value) is in
    newest layout run c.store_of-store.result c.args.id stamp c.args.key.now
    c.read.result (λ value. option_copied value)
    (h.routed c.args.key.now ∙ sym c.store_of-store.ensures.value) is'
    (c.read.ensures.represents (past_of layout c.store_of-store.result run)
    (h.pasts c.store_of-store.result c.index.result.now at))
    (c.cuts_are_consistent.ensures layout run stamp h.legal cut).issued

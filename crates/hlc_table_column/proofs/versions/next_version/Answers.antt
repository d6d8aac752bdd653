-- The newest row that is left is the first, and the others are those before it.
use Rattle.std.proofs.Common.{◌∷◌, ◌∙◌, Some, sym, ap, ap₂, ℕ, option_copied}
use Rattle.std.proofs.lemmas.Option.{slice_get_within}
use Rattle.hlc_table_column.specs.Versions.{versions_left}
use Rattle.hlc_table_column.proofs.KeyLemmas.{next_is, none_is, read_is}
use Rattle.hlc_table_column.proofs.versions.next_version.Goals as goal

pub returns-in_err-place : goal.returns-in_err-place
returns-in_err-place c =
    let none = none_is c.args.lanes.now c.args.from c.args.to c.args.last.now c.in_err-place.ensures in
    rw c.from_residual.ensures (none, none)

pub version_at-stamp-requires : goal.version_at-stamp-requires
version_at-stamp-requires c =
    let next = next_is c.args.lanes.now c.args.from c.args.to c.args.last.now c.in_ok-place.place c.requires
    c.in_ok-place.ensures in
    slice_get_within c.args.lanes.now c.in_ok-place.place next.0 next.1

pub returns : goal.returns
returns c =
    let next = next_is c.args.lanes.now c.args.from c.args.to c.args.last.now c.in_ok-place.place c.requires
    c.in_ok-place.ensures in
    let version = c.version_at-stamp.ensures next.0 next.1 in
    let stamp = ap (λ (v : ℕ × ℕ). v.0) version in
    let node = ap (λ (v : ℕ × ℕ). v.1) version in
    next.2 ∙ ap₂ (λ cell last. cell ∷ versions_left c.args.lanes.now c.args.from c.args.to last)
    (sym (read_is c.version_at-stamp.result.0 c.version_at-stamp.result.1 (option_copied c.value_at.result) next.0
    stamp node (c.value_at.ensures.value next.0 next.1)))
    (sym (ap₂ (λ s n. Some (s, n)) (c.bits.ensures.value ∙ stamp) node))

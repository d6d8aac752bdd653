-- Both walks have the one list of the versions.
use Rattle.std.proofs.Common.{◌≡◌, refl}
use Rattle.hlc_range_calls.proofs.Rowing.{one_versions, put_whole, read_are, room_for}
use Rattle.hlc_range_calls.proofs.versions.versions.Goals as goal
use Rattle.hlc_range_calls.proofs.versions.versions.Goals.{After-versions-then-total-out}

-- both walks have the same versions
both : (c : After-versions-then-total-out) → c.versions.result ≡ c.versions-then-total-out.result
both c =
    one_versions c.args.core.now.rows c.args.key.now c.from_bits-above.result c.from_bits-to.result c.versions.result
    c.versions-then-total-out.result c.versions.ensures.stored c.versions-then-total-out.ensures.stored

pub put_versions-requires : goal.put_versions-requires
put_versions-requires c =
    room_for c.versions.result c.versions-then-total-out.result c.measure-total.result.0 c.args.out.now (both c)
    c.measure-total.ensures.len c.if-total-lt18446744073709551615.true c.if-total-out.true

pub returns-then-total-out : goal.returns-then-total-out
returns-then-total-out c = (
  refl,
  (
    c.versions.result,
    read_are c.args.core.now c.args.key.now c.args.above c.args.to c.from_bits-above.result c.from_bits-to.result
        c.versions.result c.from_bits-above.ensures c.from_bits-to.ensures (record {
          stored = c.versions.ensures.stored;
          accepted = c.versions.ensures.accepted;
          all = c.versions.ensures.all;
        }),
    c.measure-total.ensures.count,
    c.measure-total.ensures.len,
    put_whole c.versions.result c.versions-then-total-out.result c.measure-total.result.0 c.args.out.now
        c.put_versions.new.out (both ((goal.at.returns-then-total-out c).After-versions-then-total-out))
        c.measure-total.ensures.len c.if-total-lt18446744073709551615.true c.if-total-out.true c.put_versions.ensures,
  ),
)

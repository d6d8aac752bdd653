-- Both walks over the snapshot have its one list of answers.
use Rattle.std.proofs.Common.{◌≡◌, ◌≤◌, List, ℕ, length, refl, subst, arith}
use Rattle.hlc_range_calls.{specs.Listing.listing_bytes, proofs.RoomLemmas.listing_room}
use Rattle.hlc_range_calls.proofs.PairLemmas.{one_list, listed_at, put_whole, put_none}
use Rattle.hlc_range_calls.proofs.list.list.Goals as goal

-- the buffer has room for the listing of any snapshot
pub put_listing-requires : goal.put_listing-requires
put_listing-requires c =
    let most = listing_room c.in-Some.view.rows c.in-Some.view.stamp (λ key. Unit {0}) c.iter.result c.sizes.result
    c.iter.ensures c.sizes.ensures in
    let room = c.has_room.ensures c.if-has_room.true in
    omega (arith, most, room)

pub returns-then-has_room-clause-listed : goal.returns-then-has_room-clause-listed
returns-then-has_room-clause-listed c = λ past h.
    let views = c.in-Some.ensures past h in
    let most = listing_room c.in-Some.view.rows c.in-Some.view.stamp (λ key. Unit {0}) c.iter.result c.sizes.result
    c.iter.ensures c.sizes.ensures in
    let room = c.has_room.ensures c.if-has_room.true in
    let end = c.put_listing.ensures.end in
    listed_at c.in-Some.view.rows _ _ c.in-Some.view.stamp c.iter.result _ c.args.out.now c.put_listing.new.out views.0
    views.1 c.iter.ensures
    (put_whole c.iter.result c.iter.result c.put_listing.result c.args.out.now c.put_listing.new.out refl end
    (omega arith) (omega (arith, most, room, end)) c.put_listing.ensures.put)

-- or it is measured first
pub put_listing-end-requires : goal.put_listing-end-requires
put_listing-end-requires c =
    let same : c.iter-2.result ≡ c.iter-then-total-room.result =
    one_list c.in-Some.view.rows c.in-Some.view.stamp c.iter-2.result c.iter-then-total-room.result c.iter-2.ensures
    c.iter-then-total-room.ensures in
    let total : c.in-Some-listing_len.total ≡ length (listing_bytes c.iter-2.result) = c.in-Some-listing_len.ensures in
    let fits : c.in-Some-listing_len.total ≤ length c.args.out.now = c.if-total-room.true in
    subst (λ (pairs : List (List ℕ × List ℕ)). length (listing_bytes pairs) ≤ length c.args.out.now) same
    (omega (arith, total, fits))

pub returns-in-None-clause-listed : goal.returns-in-None-clause-listed
returns-in-None-clause-listed c = λ past h.
    let views = c.in-Some.ensures past h in
    listed_at c.in-Some.view.rows _ _ c.in-Some.view.stamp c.iter-2.result _ c.args.out.now c.args.out.now views.0
    views.1 c.iter-2.ensures
    (put_none c.iter-2.result 18446744073709551615 c.args.out.now (omega (arith, c.in-None.ensures))
    (let big = c.in-None.ensures in omega (arith, big)))

pub returns-then-total-room-clause-listed : goal.returns-then-total-room-clause-listed
returns-then-total-room-clause-listed c = λ past h.
    let views = c.in-Some.ensures past h in
    listed_at c.in-Some.view.rows _ _ c.in-Some.view.stamp c.iter-2.result _ c.args.out.now c.put_listing-end.new.out
    views.0 views.1 c.iter-2.ensures
    (put_whole c.iter-2.result c.iter-then-total-room.result c.in-Some-listing_len.total c.args.out.now
    c.put_listing-end.new.out
    (one_list c.in-Some.view.rows c.in-Some.view.stamp c.iter-2.result c.iter-then-total-room.result c.iter-2.ensures
    c.iter-then-total-room.ensures)
    c.in-Some-listing_len.ensures (omega arith) c.if-total-room.true c.put_listing-end.ensures.put)

pub returns-else-total-room-clause-listed : goal.returns-else-total-room-clause-listed
returns-else-total-room-clause-listed c = λ past h.
    let views = c.in-Some.ensures past h in
    let total : c.in-Some-listing_len.total ≡ length (listing_bytes c.iter-2.result) = c.in-Some-listing_len.ensures in
    listed_at c.in-Some.view.rows _ _ c.in-Some.view.stamp c.iter-2.result _ c.args.out.now c.args.out.now views.0
    views.1 c.iter-2.ensures (put_none c.iter-2.result c.in-Some-listing_len.total c.args.out.now (omega (arith, total))
    (let short = c.if-total-room.false in omega (arith, total, short)))

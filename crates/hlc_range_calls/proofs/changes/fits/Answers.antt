-- A key and an answer take their bytes, and 9, or 17 where there is a value.
use Rattle.std.proofs.Common.{◌∙◌, ◌<◌, ◌≤◌, ◌-◌, Some, None, sym, ap, leb, length, arith, option_copied}
use Rattle.hlc_range_calls.specs.Changes.{change_bytes}
use Rattle.hlc_range_calls.proofs.ByteLemmas.{none_length, some_length, same_le, no_le}
use Rattle.hlc_range_calls.proofs.changes.fits.Goals as goal

pub returns-then-room-ge9 : goal.returns-then-room-ge9
returns-then-room-ge9 c =
    let key = c.args.key.now in
    let room = c.args.room in
    let long = none_length key in
    let low : 9 ≤ room = c.if-room-ge9.true in
    same_le (length key) (room - 9) (length (change_bytes (key, None))) room
    (λ le. omega (arith, le, long, low)) (λ le. omega (arith, le, long, low))
    ∙ ap (λ o. leb (length (change_bytes (key, option_copied o))) room) (sym c.in-None.is)

pub returns-else-room-ge9 : goal.returns-else-room-ge9
returns-else-room-ge9 c =
    let key = c.args.key.now in
    let room = c.args.room in
    let long = none_length key in
    let low : room < 9 = c.if-room-ge9.false in
    same_le 9 room (length (change_bytes (key, None))) room
    (λ le. omega (arith, le, low)) (λ le. omega (arith, le, long, low))
    ∙ ap (λ o. leb (length (change_bytes (key, option_copied o))) room) (sym c.in-None.is)

pub returns-then-room-lt17 : goal.returns-then-room-lt17
returns-then-room-lt17 c =
    let key = c.args.key.now in
    let room = c.args.room in
    let value = c.in-Some.value in
    let long = some_length key value.now in
    let low : room < 17 = c.if-room-lt17.true in
    no_le (length (change_bytes (key, Some value.now))) room (omega (arith, long, low))
    ∙ ap (λ o. leb (length (change_bytes (key, option_copied o))) room) (sym c.in-Some.is)

pub returns-then-room-key : goal.returns-then-room-key
returns-then-room-key c =
    let key = c.args.key.now in
    let room = c.args.room in
    let value = c.in-Some.value in
    let long = some_length key value.now in
    let low : 17 ≤ room = c.if-room-lt17.false in
    let more : length key ≤ room - 17 = c.if-room-key.true in
    same_le (length value.now) (room - 17 - length key) (length (change_bytes (key, Some value.now))) room
    (λ le. omega (arith, le, long, low, more)) (λ le. omega (arith, le, long, low, more))
    ∙ ap (λ o. leb (length (change_bytes (key, option_copied o))) room) (sym c.in-Some.is)

pub returns-else-room-key : goal.returns-else-room-key
returns-else-room-key c =
    let key = c.args.key.now in
    let room = c.args.room in
    let value = c.in-Some.value in
    let long = some_length key value.now in
    let low : 17 ≤ room = c.if-room-lt17.false in
    let less : room - 17 < length key = c.if-room-key.false in
    same_le (length key) (room - 17) (length (change_bytes (key, Some value.now))) room
    (λ le. omega (arith, le, less)) (λ le. omega (arith, le, long, low, less))
    ∙ ap (λ o. leb (length (change_bytes (key, option_copied o))) room) (sym c.in-Some.is)

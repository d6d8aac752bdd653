-- One more part is split off, and its caller has the next number.
use Rattle.std.proofs.Common.{ℕ, List, arith, ap, sym, ◌∙◌, map, [], ◌∷◌, ◌++◌}
use Rattle.std.{specs.List.range_with_len, proofs.lemmas.List.FromFn.map-range_with_len_more}
use Rattle.hlc_server.specs.Seats.{CallerView, fresh_seat}
use Rattle.hlc_server.proofs.guarded.callers_of.Goals as goal

pub loop-number-preserved : goal.loop-number-preserved
loop-number-preserved g c =
    let n = c.loop-number.number in
    let seats = map fresh_seat (range_with_len 0 n) in (
      omega (arith, c.split_off-share.ensures.parts_left, c.loop-number.invariant.0),
      omega (arith, c.split_off-share.ensures.amount_left, c.loop-number.invariant.1),
      c.in_ok-push.ensures.items
          ∙ ap (λ (all : List CallerView). all ++ record { number = n; share = c.split_off-share.result.amount } ∷ [])
          c.loop-number.invariant.2
          ∙ ap (λ (share : ℕ). seats ++ record { number = n; share = share } ∷ []) c.split_off-share.ensures.amount
          ∙ sym (map-range_with_len_more fresh_seat 0 n n (omega arith)),
    )

-- The front gets as much as it has room for, and the rest goes after it.
use Rattle.std.proofs.Common.{◌≡◌, ℕ, ◌++◌, not, List, take, drop, refl, ap, sym, ◌∙◌}
use Rattle.hlc_frame.specs.{Opening.front_at, Reading.HasRead, Reading.body_so_far}
use Rattle.hlc_frame.proofs.ListLemmas.{take_again}
use Rattle.hlc_frame.proofs.BlockLemmas.{IsReady, first_block, later_block, body_cut, none_body, some_goes, some_body}
use Rattle.hlc_frame.proofs.reader.FrameReader.feed.Goals.{Joined-is_none, then-is_none, else-is_none}
use Rattle.hlc_frame.proofs.reader.FrameReader.feed.Goals as goal

-- before the rest of the block
ready : (c : Joined-is_none) (fed : List ℕ) → HasRead c.args.self.now fed
    → IsReady c.if-is_none.self.rest fed c.args.block.now c.fill-rest.result.now
ready c fed has =
    elim c.if-is_none.branch [
      | then-is_none w ↦
          rw w.self-is (first_block c.args.self.now fed c.args.block.now c.fill-rest.result.now w.as_slice.result.now
          w.rest_after-self.result has (c.is_none.ensures ∙ ap not w.if-is_none.true)
          (w.as_slice.ensures.value ∙ c.fill-rest.ensures.buffer) c.fill-rest.ensures.rest w.rest_after-self.ensures)
      | else-is_none w ↦
          rw w.self-is (later_block c.args.self.now fed c.args.block.now c.fill-rest.result.now has
          (c.is_none.ensures ∙ ap not w.if-is_none.false) c.fill-rest.ensures.rest)
    ]

pub returns-in-None-clause-body : goal.returns-in-None-clause-body
returns-in-None-clause-body c = λ fed has.
    let all' : List ℕ = fed ++ c.args.block.now in
    none_body (front_at (take 20 all')) (take 20 all') (body_so_far fed) c.fill-rest.result.now (drop 20 all')
    (rw c.in-None.is at (ready (goal.at.returns-in-None-clause-body c).Joined-is_none fed has)) ∙ sym (body_cut all')

pub returns-in-Some-clause-read : goal.returns-in-Some-clause-read
returns-in-Some-clause-read c = λ fed has.
    let all' : List ℕ = fed ++ c.args.block.now in
    let buffer : c.if-is_none.self.front.items ≡ c.fill-rest.new.buffer.items =
    elim c.if-is_none.branch [ then-is_none w ↦ rw w.self-is refl | else-is_none w ↦ rw w.self-is refl ] in
    record {
      front = buffer ∙ c.fill-rest.ensures.buffer ∙ ap (λ (l : List ℕ). take 20 (l ++ c.args.block.now)) has.front
          ∙ take_again 20 fed c.args.block.now;
      rest = some_goes (front_at (take 20 all')) c.in-Some.reader c.feed.new.self (take 20 all') (body_so_far fed)
          c.fill-rest.result.now (drop 20 all')
          (rw c.in-Some.is at (ready (goal.at.returns-in-Some-clause-read c).Joined-is_none fed has))
          c.feed.ensures.read;
    }

pub returns-in-Some-clause-body : goal.returns-in-Some-clause-body
returns-in-Some-clause-body c = λ fed has.
    let all' : List ℕ = fed ++ c.args.block.now in
    some_body (front_at (take 20 all')) c.in-Some.reader (take 20 all') (body_so_far fed) c.fill-rest.result.now
    (drop 20 all') c.feed.result.now
    (rw c.in-Some.is at (ready (goal.at.returns-in-Some-clause-body c).Joined-is_none fed has)) c.feed.ensures.body
    ∙ sym (body_cut all')

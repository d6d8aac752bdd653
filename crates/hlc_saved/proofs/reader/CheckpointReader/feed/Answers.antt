-- The body continues with the piece; if that is not added, there was no room for it.
use Rattle.std.proofs.Common.{arith, refl}
use Rattle.hlc_saved.proofs.Blocks.{fed_on, fed_not}
use Rattle.hlc_saved.proofs.reader.CheckpointReader.feed.Goals as goal

pub returns-clause-ok : goal.returns-clause-ok
returns-clause-ok c = λ fed has.
    fed_on c.take.result c.args.self.now _ fed c.args.block.now c.feed-piece.result.now c.take.new.self
    has (c.feed-piece.ensures.read fed has.frame) (c.feed-piece.ensures.body fed has.frame)
    (λ i. omega (arith, c.type_inv.block i)) refl
    (λ read left. c.take.ensures.ok read (c.make_room.ensures.same read (c.advance.ensures.same read left)))

pub returns-clause-err : goal.returns-clause-err
returns-clause-err c = λ fed has.
    fed_not _ c.take.result fed c.args.block.now c.feed-piece.result.now _ _ (c.feed-piece.ensures.body fed has.frame)
    (omega (arith, c.in_ok-make_room.ensures.room))
    c.take.ensures.full

-- The parts of an item, one after another.
use Rattle.hlc_wire.proofs.{ItemLemmas.body_fits, PlacingLemmas.item_put}
use Rattle.std.proofs.Common.{arith}
use Rattle.hlc_wire.proofs.item.put_item.Goals as goal

pub returns-clause-put : goal.returns-clause-put
returns-clause-put c =
    item_put c.size_of-size.result c.put_bytes-at_numbers.result c.put_numbers-at_body.result c.args.item.now
    c.args.out.now c.put_bytes-at_numbers.new.out c.put_numbers-at_body.new.out c.put_body.new.out
    c.put_bytes-at_numbers.ensures.put c.put_bytes-at_numbers.ensures.end c.put_numbers-at_body.ensures.put
    c.put_numbers-at_body.ensures.end c.put_body.ensures.put c.size_of-size.ensures.size
    (let room = c.if-out-size.false in omega (arith, room))

pub put_body-requires-clause-fits : goal.put_body-requires-clause-fits
put_body-requires-clause-fits c = body_fits c.args.item.now.body c.requires

pub returns-clause-fits : goal.returns-clause-fits
returns-clause-fits c = λ some.
    let numbers = c.put_numbers-at_body.ensures.fits in record {
      node = numbers.node;
      number = numbers.number;
      stamp = numbers.stamp;
      body = body_fits c.args.item.now.body c.requires;
    }

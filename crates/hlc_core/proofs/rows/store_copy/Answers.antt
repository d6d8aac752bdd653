-- The row of a write is the item's, and so are the rows of a batch, whose writes are of different keys.
use Rattle.std.proofs.Common.{◌≡◌, sym, subst, Contains, [], None, option_copied}
use Rattle.hlc_values.proofs.MemberLemmas.{Contains-first}
use Rattle.hlc_rows.specs.declared.row.Row.{Row}
use Rattle.hlc_node.specs.{declared.item.Body.Body, Items.body_refusal}
use Rattle.hlc_core.specs.Past.{body_rows}
use Rattle.hlc_rows.proofs.WritesLemmas.{good}
use Rattle.hlc_core.proofs.rows.store_copy.Goals as goal

pub insert_copy-requires : goal.insert_copy-requires
insert_copy-requires c =
    let row : Row = record {
      key = c.in-One.written.key.now;
      stamp = c.args.item.now.stamp;
      node = c.args.item.now.node;
      value = option_copied c.in-One.written.value;
    } in
    rw (c.stamp.ensures, c.node.ensures)
    (c.requires.new row
    (subst (λ (body : Body). Contains (body_rows c.args.item.now.node c.args.item.now.stamp body) row)
    (sym c.in-One.ensures) (Contains-first row [])))

pub insert_writes-requires-clause-new : goal.insert_writes-requires-clause-new
insert_writes-requires-clause-new c =
    rw (c.stamp-in-Many.ensures, c.node-in-Many.ensures)
    (λ row m. c.requires.new row
    (subst (λ (body : Body). Contains (body_rows c.args.item.now.node c.args.item.now.stamp body) row)
    (sym c.in-Many.ensures) m))

pub insert_writes-requires-clause-once : goal.insert_writes-requires-clause-once
insert_writes-requires-clause-once c =
    (good c.in-Many.writes
    (subst (λ (body : Body). body_refusal body ≡ None) c.in-Many.ensures c.requires.good)).once

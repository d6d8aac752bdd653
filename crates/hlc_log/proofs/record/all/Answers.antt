-- Where the copy of a record needs memory, it is a write.
use Rattle.std.proofs.{Common.sym, Common.arith, Common.eqb-true, lemmas.Bool.false≢true, lemmas.List.nil_from_length}
use Rattle.hlc_wire.proofs.ItemLemmas.{whole_is_ok}
use Rattle.hlc_log.{specs.Record.record_at, specs.Record.record_seen, proofs.RecordLemmas.write_at}
use Rattle.hlc_log.proofs.record.all.Goals as goal

pub returns-in_err-copy-clause-memory : goal.returns-in_err-copy-clause-memory
returns-in_err-copy-clause-memory c = λ e. (
  write_at c.args.bytes.now c.in_ok-entry.rest.now (record_seen c.in_ok-entry.entry)
      (λ i. omega (arith, c.type_inv.bytes i)) c.in_ok-entry.ensures
      (λ short. false≢true (c.in_err-copy.ensures.short short)),
  whole_is_ok (record_at c.args.bytes.now) (record_seen c.in_ok-entry.entry, c.in_ok-entry.rest.now)
      c.in_ok-entry.ensures
      (nil_from_length c.in_ok-entry.rest.now (eqb-true _ _ (sym c.if-not-is_empty.ensures))),
)

-- If a witness has a fault, it is the first reason, since those before it are changes and ascend; and a certificate has
-- no fault.
use Rattle.std.proofs.Common.{refl, arith, inl, inr}
use Rattle.hlc_witness.proofs.Ascending.{ascend_more, none_ascend}
use Rattle.hlc_witness.proofs.Faults.{certificate_no_fault, first_fault, each_more}
use Rattle.hlc_witness.proofs.checker.reason_against.Goals as goal

pub loop-i-init : goal.loop-i-init
loop-i-init c = record { ascend = none_ascend; each = λ k d lt. absurd (omega arith) }

pub returns-in-Some-clause-reason : goal.returns-in-Some-clause-reason
returns-in-Some-clause-reason c =
    let found = first_fault c.args.rows.now c.args.points.now c.args.witnesses.now c.loop-i.i c.index-witnesses-i.result
    c.in-Some.reason c.loop-i-test.true c.index-witnesses-i.is c.loop-i.invariant.ascend c.loop-i.invariant.each
    c.in-Some.ensures in
    inr (
      c.if-not-do_points_ascend.ensures.0 refl,
      inr (
        c.if-not-do_rows_ascend.ensures.0 refl,
        inr (c.if-not-is_none_above.ensures.0 refl, inl found),
      ),
    )

pub returns-in-Some-clause-only : goal.returns-in-Some-clause-only
returns-in-Some-clause-only c = λ certificate.
    absurd (certificate_no_fault c.args.rows.now c.args.points.now c.args.witnesses.now c.loop-i.i
    c.index-witnesses-i.result c.in-Some.reason c.loop-i-test.true c.index-witnesses-i.is
    c.in-Some.ensures certificate)

pub loop-i-preserved : goal.loop-i-preserved
loop-i-preserved c = record {
  ascend = ascend_more c.args.witnesses.now c.loop-i.i c.index-witnesses-i.result c.loop-i-test.true
      c.index-witnesses-i.is c.loop-i.invariant.ascend c.in_default.ensures.0;
  each = each_more c.args.rows.now c.args.points.now c.args.witnesses.now c.loop-i.i c.index-witnesses-i.result
      c.loop-i-test.true c.index-witnesses-i.is c.loop-i.invariant.each c.in_default.ensures.1;
}

-- Each leaf is written after those before it; all pieces are the bytes.
use Rattle.std.proofs.Common.{◌≡◌, ◌∙◌, ◌++◌, [], ap, sym, subst, refl, arith, ℕ, List}
use Rattle.hlc_saved.specs.{Saved.AreOfStore, Writing.begin_bytes, Writing.leaves_left}
use Rattle.hlc_saved.proofs.StorePieces.{SavesMore, saves_none, saves_then, all_saved, bytes_represent}
use Rattle.hlc_saved.proofs.saving.save.Goals.{In_ok-end}
use Rattle.hlc_saved.proofs.saving.save.Goals as goal

pub loop-init : goal.loop-init
loop-init c =
    let tag = c.args.tag in
    let kept = c.args.core.now in
    let first : List ℕ = begin_bytes tag kept in
    let none : c.begin.new.out.items ≡ first =
    c.in_ok-writer.ensures.ok ∙ ap (λ (l : List ℕ). l ++ first) c.new-out.ensures.items in
    record {
      saved = subst (λ (l : List ℕ). SavesMore c.in_ok-writer.writer tag kept first first l)
          (sym (c.in_ok-reserve.ensures.items ∙ none))
          (saves_none c.in_ok-writer.writer tag kept first first c.in_ok-writer.ensures.written);
      fewer = omega (arith, c.left-left.ensures);
    }

pub loop-preserved : goal.loop-preserved
loop-preserved c =
    let tag = c.args.tag in
    let kept = c.args.core.now in
    let so = c.loop.invariant.fewer in
    let one = c.in_ok-more.ensures.fewer in
    record {
      saved = saves_then c.loop.writer c.more.new.self tag kept (begin_bytes tag kept) (begin_bytes tag kept)
          c.loop.out.items c.more.new.out.items c.loop.invariant.saved
          (λ all'. c.in_ok-more.ensures.written tag kept all');
      fewer = omega (arith, so, one);
    }

all_of : (c : In_ok-end) → AreOfStore c.end.new.out.items c.args.tag c.args.core.now
all_of c =
    let tag = c.args.tag in
    let kept = c.args.core.now in
    let so = c.loop.invariant.fewer in
    let past = c.loop-test.false in
    let none : leaves_left c.loop.writer ≡ 0 = omega (arith, so, past) in
    all_saved c.loop.writer tag kept [] (begin_bytes tag kept) c.loop.out.items c.end.new.out.items refl refl
    c.loop.invariant.saved (λ bytes has. c.in_ok-end.ensures.whole tag kept bytes has none)

pub returns-clause-kept : goal.returns-clause-kept
returns-clause-kept c = all_of c

pub returns-clause-represents : goal.returns-clause-represents
returns-clause-represents c = λ past h.
    bytes_represent c.end.new.out.items c.args.tag c.args.core.now past (all_of c) h

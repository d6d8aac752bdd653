-- The contract of each call of the closure, for each piece in turn.
use Rattle.std.proofs.Common.{◌≡◌, ◌∙◌, ap, sym, subst, max, arith}
use Rattle.std.specs.List.{AllZip}
use Rattle.rayon.specs.Lists.{chunks_of}
use Rattle.rayon.proofs.ListFacts.{IfOk-then}
use Rattle.rayon.proofs.ToStd.{slice-AllZip, chunks_of-concat}
use Rattle.hlc_clock.specs.Points.{PointsAscend}
use Rattle.hlc_table_column.specs.Rows.{KeysAscend}
use Rattle.hlc_columns.specs.Table.{columns_in}
use Rattle.hlc_vacuum.{specs.Parallel.DraftsPiece, specs.Parallel.leaves_of, proofs.Pieces.piece_ascends}
use Rattle.hlc_vacuum.proofs.parallel.plan_pieces.Goals as goal

pub collect-requires-clause-ready : goal.collect-requires-clause-ready
collect-requires-clause-ready g c κs within =
    let base = c.map.result.base.base in
    let slice : base.slice.now ≡ c.args.leaves.now =
    ap (λ it. it.slice.now) (ap (λ it. it.base) c.map.ensures.base ∙ c.with_min_len.ensures.base)
    ∙ c.par_chunks.ensures.slice in
    let pieces = chunks_of (max base.size 1) base.slice.now in
    let whole : leaves_of pieces ≡ c.args.leaves.now =
    chunks_of-concat (max base.size 1) base.slice.now (omega arith) ∙ slice in
    λ k d lt x is. (
      (
        subst (λ f. PointsAscend f.1.now) (sym c.map.ensures.f) c.requires.points,
        subst (λ xs. KeysAscend (columns_in xs)) (sym is)
            (piece_ascends pieces k d (subst (λ xs. KeysAscend (columns_in xs)) (sym whole) c.requires.ascend) lt),
      ),
      λ y p. tt,
    )

pub returns : goal.returns
returns g c =
    let base = c.map.result.base.base in
    let slice : base.slice.now ≡ c.args.leaves.now =
    ap (λ it. it.slice.now) (ap (λ it. it.base) c.map.ensures.base ∙ c.with_min_len.ensures.base)
    ∙ c.par_chunks.ensures.slice in
    let pieces = chunks_of (max base.size 1) base.slice.now in
    let whole : leaves_of pieces ≡ c.args.leaves.now =
    chunks_of-concat (max base.size 1) base.slice.now (omega arith) ∙ slice in
    IfOk-then c.collect.result _ _ c.collect.ensures (λ v h.
    let chain = h.1 in (
      pieces,
      whole,
      rw h.2 (subst (λ f. AllZip (DraftsPiece f.1.now) pieces h.0) c.map.ensures.f
          (slice-AllZip chain.0 pieces chain.1 (DraftsPiece c.map.result.f.1.now) h.0 chain.2)),
    ))

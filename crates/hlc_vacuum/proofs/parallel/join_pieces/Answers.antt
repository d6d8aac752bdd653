-- Each piece is added to those before it.
use Rattle.std.proofs.Common.{◌≡◌, ◌∙◌, ◌++◌, ◌∷◌, [], sym, ap, subst, append_assoc, arith, rules}
use Rattle.std.{specs.List.AllZip, proofs.lemmas.Grind.common_steps}
use Rattle.hlc_table_column.specs.Rows.{KeysAscend}
use Rattle.hlc_columns.specs.Table.{columns_in}
use Rattle.hlc_vacuum.specs.{Leaves.IsPieceOf, Parallel.DraftsPiece}
use Rattle.hlc_vacuum.proofs.Pieces.{JoinsPieces, pieces_on, pieces_none}
use Rattle.hlc_vacuum.proofs.parallel.join_pieces.Goals as goal

pub loop-piece-init : goal.loop-piece-init
loop-piece-init c =
    let new = c.new-whole.ensures in
    record {
      all' = search rules;
      joined = pieces_none c.new-whole.result new.keep new.changes new.bytes new.witnesses;
    }

pub loop-piece-preserved : goal.loop-piece-preserved
loop-piece-preserved c =
    let inv = c.loop-piece.invariant in
    let added = c.in_ok-append.ensures in
    record {
      all' = rw append_assoc (ap (λ xs. c.loop-piece.yielded ++ xs) (sym c.in-Some.ensures.steps.0) ∙ inv.all');
      joined =
          subst (λ one. JoinsPieces (c.loop-piece.yielded ++ one ∷ []) c.append.new.self) (sym c.in_ok-piece.was)
          (pieces_on c.loop-piece.yielded c.loop-piece.whole c.in_ok-piece.field-0 c.append.new.self
          inv.joined added.witnesses added.keep added.changes added.bytes);
    }

pub returns : goal.returns
returns c = λ points leaves up drafts.
    let all' = c.loop-piece.invariant.all' in
    let end : c.loop-piece.yielded ≡ c.args.pieces.items = grind (arith, common_steps) in
    subst (λ xs. IsPieceOf (columns_in xs) points c.loop-piece.whole) drafts.1
    (c.loop-piece.invariant.joined points drafts.0 (subst (λ xs. KeysAscend (columns_in xs)) (sym drafts.1) up)
    (subst (AllZip (DraftsPiece points) drafts.0) (sym end) drafts.2))

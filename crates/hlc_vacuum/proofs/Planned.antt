-- The plans of pieces and the tallies of drafts.
use Rattle.std.proofs.Common.{◌≡◌, ◌∙◌, ℕ, List, length, ap, sym, subst}
use Rattle.hlc_rows.specs.{declared.row.Row.Row, Rows.IsRowSet}
use Rattle.hlc_clock.specs.Points.{PointsAscend}
use Rattle.hlc_table_column.specs.Rows.{KeyCells, KeysAscend, rows_in}
use Rattle.hlc_vacuum_draft.specs.Plan.{PlanView, TallyView, IsPlanOf, IsTallyOf}
use Rattle.hlc_vacuum_draft.specs.{declared.draft.Draft.Draft, KeyPlan.IsDraftOf, KeyPlan.IsJoined}
use Rattle.hlc_vacuum_draft.proofs.JoinedLemmas.{joined_plans, draft_tallies}
use Rattle.hlc_vacuum.specs.{declared.piece.Piece.Piece, Leaves.IsPieceOf}

-- the number of the changes of a piece
pub piece_counted : (columns : List KeyCells) (points : List ℕ) (piece : Piece) → IsPieceOf columns points piece
    → piece.draft.changes ≡ length piece.witnesses.items
piece_counted columns points piece so = so.draft.changes ∙ ap length (sym so.changes)

module _ (columns : List KeyCells) (points : List ℕ) (rows : List Row) (ascend : PointsAscend points)
    (up : KeysAscend columns) (is : rows_in columns ≡ rows) (row_set : IsRowSet rows) where
  -- the plan of a piece of all columns
  pub piece_plans : (piece : Piece) (plan : PlanView) → IsPieceOf columns points piece
      → plan ≡ record {
        keep = piece.draft.keep;
        points = points;
        witnesses = piece.witnesses.items;
        bytes = piece.draft.bytes;
      }
      → IsPlanOf plan rows
  piece_plans piece plan so made =
      let joined = subst (λ cs. IsJoined columns points cs piece.draft.keep piece.draft.bytes) (sym so.changes)
      so.draft.joined in
      subst (λ plan. IsPlanOf plan rows) (sym made)
      (subst (IsPlanOf (record {
        keep = piece.draft.keep;
        points = points;
        witnesses = piece.witnesses.items;
        bytes = piece.draft.bytes;
      })) is
      (joined_plans points columns piece.witnesses.items piece.draft.keep piece.draft.bytes ascend up
      (subst IsRowSet (sym is) row_set) joined))

  -- the tally of a draft of all columns
  pub draft_is_tally : (draft : Draft) (tally : TallyView) → IsDraftOf columns points draft
      → tally ≡ record { keep = draft.keep; points = points; kept = draft.changes; bytes = draft.bytes }
      → IsTallyOf tally rows
  draft_is_tally draft tally so made =
      subst (λ tally. IsTallyOf tally rows) (sym made)
      (subst (IsTallyOf (record {
        keep = draft.keep;
        points = points;
        kept = draft.changes;
        bytes = draft.bytes;
      })) is
      (draft_tallies points columns draft ascend up (subst IsRowSet (sym is) row_set) so))

-- Part of a vacuum is what its event asks for after each past that the core represented, and so is a refusal, which is
-- never that memory runs out. What a core does after its past is a step of its history.
use Rattle.std.proofs.Common.{◌≡◌, ◌∙◌, ℕ, List, Option, Some, None, Bool, false, inl, inr, sym, subst, ap}
use Rattle.std.specs.Prelude.{Ok, Err, ◌≢◌, Result, IfOk, OnErr, if◌then◌else◌}
use Rattle.std.specs.declared.alloc.AllocError.{AllocError}
use Rattle.hlc_node.specs.{declared.item.Item.Item, Items.body_refusal}
use Rattle.hlc_rows.specs.declared.limits.BodyFault.{BodyFault}
use Rattle.hlc_snapshot.specs.declared.fault.SnapshotFault.TheVariants.{TooManySnapshots, NumbersSpent as no_ids}
use Rattle.hlc_heads.specs.declared.heads.JoinFault.TheVariants.{TooManyNodes, BelowFloor}
use Rattle.hlc_intake.specs.declared.intake.LinkFault.TheVariants.{Retired, NotNext, NumbersSpent, StampNotRising}
use Rattle.hlc_events.specs.declared.fault.CoreFault.{CoreFault}
use Rattle.hlc_events.specs.declared.fault.CoreFault.TheVariants.{NoMemory, NoNode, Link, AboveFloor, BelowHorizon}
use Rattle.hlc_events.specs.declared.fault.CoreFault.TheVariants.{Join as joining}
use Rattle.hlc_events.specs.declared.event.CoreEvent.{TheVariants.Accept, TheVariants.VacuumPart, CoreEvent}
use Rattle.hlc_core.specs.declared.reply.CoreReply.{TheVariants.Refused, TheVariants.VacuumedPart, CoreReply}
use Rattle.hlc_vacuum_draft.specs.declared.report.Report.{Report}
use Rattle.hlc_core.specs.{StoreView.StoreView, StoreView.Represents, Parts.VacuumsPart, Calls.IsRefusal}
use Rattle.hlc_core.specs.Past.{Step, of_body, of_room, item_refusal, join_at_refusal, open_refusal}
use Rattle.hlc_core.specs.History.{RepresentsHistory, IsStep, Steps, IsMove, Moves, MayRunOutOfMemory, past_of}
use Rattle.hlc_core.specs.History.{expected_refusal}

pub part_is_move : (past : List Step) (old new : StoreView) (at : ℕ) (after : List ℕ) (limit : ℕ) (report : Report)
    (end : Option (List ℕ)) → Represents old past → VacuumsPart old new at after limit past (Ok (report, end))
    → IsMove past old new (VacuumPart at after limit) (VacuumedPart report end)
part_is_move past old new at after limit report end represents made = (
  (made.0, record { old = old; new = new; represents = represents; made = made }),
  made.2.represents,
  made.2.fewest,
  made,
)

-- a refusal is no step: the core is as it was
pub refused_is_move : (past : List Step) (old : StoreView) (event : CoreEvent) (fault : CoreFault) → Represents old past
    → expected_refusal past event ≡ Some fault → IsMove past old old event (Refused fault)
refused_is_move past old (Accept item) fault h is = (is, h, tt, tt)
refused_is_move past old _ fault h is = (is, h, tt, tt)

-- no call is refused for memory but where memory runs out
pub refused_moves : (past : List Step) (old new : StoreView) (event : CoreEvent) (fault : CoreFault)
    (result : Result CoreReply AllocError) → new ≡ old → Represents old past
    → expected_refusal past event ≢ Some NoMemory
    → IsRefusal (expected_refusal past event) (MayRunOutOfMemory past event) fault
    → IfOk result (λ reply. (reply ≡ Refused fault) × (fault ≢ NoMemory)) → OnErr result (fault ≡ NoMemory)
    → Moves past old new event result
refused_moves past old new event fault (Ok reply) same h never (inl expected) ok err =
    subst (λ kept. IsMove past old kept event reply) (sym same)
    (subst (λ r. IsMove past old old event r) (sym ok.0) (refused_is_move past old event fault h expected))
refused_moves past old new event fault (Ok reply) same h never (inr lost) ok err = absurd (ok.1 lost.1)
refused_moves past old new event fault (Err shortage) same h never (inl expected) ok err =
    absurd (never (expected ∙ ap Some err))
refused_moves past old new event fault (Err shortage) same h never (inr lost) ok err = (lost.0, lost.2)

-- what a core does after its past is a step of its history
pub move_is_step : (nodes : ℕ) (old new : StoreView) (event : CoreEvent) (history : List (CoreEvent × CoreReply))
    (reply : CoreReply) → RepresentsHistory nodes old history
    → IsMove (past_of nodes history) old new event reply → IsStep nodes old new event history reply
move_is_step nodes old new event history reply h move =
    (move.0, record { legal = (move.0, h.legal); core = move.1; left = move.2 }, move.3)

pub moves_are_steps : (nodes : ℕ) (old new : StoreView) (event : CoreEvent) (history : List (CoreEvent × CoreReply))
    (result : Result CoreReply AllocError) → RepresentsHistory nodes old history
    → Moves (past_of nodes history) old new event result → Steps nodes old new event history result
moves_are_steps nodes old new event history (Ok reply) h move =
    move_is_step nodes old new event history reply h move
moves_are_steps nodes old new event history (Err shortage) h move = move

-- no expected refusal of an item is that memory runs out
pub item_takes_none : (past : List Step) (item : Item) → item_refusal past item ≢ Some NoMemory
item_takes_none past item = first _ _ _ _ _ _ _ (body_refusal item.body)
  where
    first : (away gone skips spent low : Bool) (next last : ℕ) (body : Option BodyFault)
        → (if away then Some NoNode
        else if gone then Some (Link Retired)
        else if skips then Some (Link (NotNext next))
        else if spent then Some (Link NumbersSpent)
        else if low then Some (Link (StampNotRising last))
        else of_body body) ≢ Some NoMemory
    first false false false false false next last (Some fault) = λ e. absurd (cc)
    first _ _ _ _ _ next last _ = λ e. absurd (cc)

-- nor of a join at a start
pub join_takes_none : (past : List Step) (at : ℕ) → join_at_refusal past at ≢ Some NoMemory
join_takes_none past at = first _ _ _
  where
    first : (full low : Bool) (least : ℕ)
        → (if full then Some (joining TooManyNodes) else if low then Some (joining (BelowFloor least)) else None)
        ≢ Some NoMemory
    first false false least = λ e. absurd (cc)
    first _ _ least = λ e. absurd (cc)

-- nor of an opening
pub open_takes_none : (past : List Step) (stamp : ℕ) → open_refusal past stamp ≢ Some NoMemory
open_takes_none past stamp = first _ _ _ _ _ _
  where
    first : (high low full spent : Bool) (most least : ℕ)
        → (if high then Some (AboveFloor most)
        else if low then Some (BelowHorizon least)
        else of_room (if full then Some TooManySnapshots else if spent then Some no_ids else None))
        ≢ Some NoMemory
    first false false false false most least = λ e. absurd (cc)
    first _ _ _ _ most least = λ e. absurd (cc)

-- `lent` returns what is at the room's pointer. Assumes `Logic`.
use Rattle.std.proofs.Common.{◌≡◌, List, [], ◌∷◌, ◌++◌, refl, sym, ap, ◌∙◌, subst, Option, Some, IsSome}
use mir.Val.{Val, vptr}
use base.Logic.{SProp, ent, emp, id⊢}
use prog.Wp.{WpFn}
use types.Kit.{‵, raw, ◌⊛◌, ◌$◌, ◌∵◌, !, qed, by, move, keep, split, fsplit, fjoin, suffices, use0, rewrite}
use types.Run.{stop, fld, of_opd, no_more, and_then, returns, enter}
use types.ByLocal.{alloc_all, pass_all, free_all, look_at, get, get_in, sets}
use types.Part.{agg, sub, whole}
use contract.{Monad.fact, Monad.fact_i, Running.tables}
use denote.{RattleType.owns, Steps.nothing, Steps.heard, Signature.types_at, Signature.plain}
use denote.RawPtr.{Ptr, block_ptr, ptr_val, in_a_block}
use denote.Triple.{Entry.alive, Walked.Stays, Walked.stay_dropped, Walked.walk_of}
use Rattle.core.proofs.alloc.Calls.{Goes-blank}
use Rattle.std.proofs.raw_atomic.Walks.{proved_at, leaves}
use Rattle.hlc_handle.specs.Lent.{Loan, lent_owns, lent_room_owns}
use Rattle.hlc_handle.proofs.Rooms.{one, some_is, room_in, room_out}
use Rattle.hlc_handle.proofs.{LentValues.nowhere, reader.LentRoom.lent.Statement.statement}
use Rattle.hlc_handle.specs.contracts.reader.LentRoom.lent.{ended, clauses, Key.name as #self}
use Rattle.hlc_core.specs.contracts.store.Core as core
use Rattle.hlc_handle.specs.contracts.reader.LentCore as lent
use Rattle.hlc_handle.specs.contracts.reader.LentRoom as room
use Rattle.hlc_handle.proofs.reader.LentRoom.lent.Code as code

pub lent_spec : {M : Type 1} → statement M
lent_spec 𝓤 𝓛 𝓜 𝓡 wired =
    let 𝓣 = tables 𝓤 𝓛.H 𝓜 𝓡 𝓡.env in let c = clauses 𝓛 𝓜.mem 𝓡.returns in let fn = code.function in
    let S = plain (λ _. room.the_row) in
    let hs : Stays ended.signature.params ended.kept = (stay_dropped S ended.kept.0, tt) in
    proved_at 𝓛 ended hs c 𝓜 𝓡 (Goes-blank 𝓛 0 S ended.kept.0 (λ κs x f. tt), tt) #self fn
    (code.unfolded 𝓤 𝓛.H 𝓜 𝓡 wired) (λ z are.
    let Post : Val → SProp 𝓤 = (walk_of 𝓛 ended hs c).post z in let Run : List Val
    → SProp 𝓤 = λ ws. WpFn 𝓤 𝓛.H 𝓣.C 𝓣.Λ fn ws Post in
    let d = z.0.3.0 in
    qed 𝓛 ((raw (alive 𝓛 ended.signature z.0.0 z.0.1) ⊛ ‵ (owns
    (types_at ended.signature.params z.0.0) z.0.3 z.0.4)) ∷ raw (fact 𝓤 (IsSome d.value)) ∷ []) ∵
    move ! (1 ∷ []) $ heard ! (IsSome d.value) (λ there. let found = some_is d.value there in let x = found.0 in
    split ! $ move ! (1 ∷ []) $ fsplit ! $ room_out ! d.at (lent_room_owns core.the_row d.at d.value) z.0.4.0 (λ ws.
    rewrite ! 0 (λ (y : Option (Loan core.the_row)). ‵ (lent_room_owns core.the_row d.at y)) found.1 refl $
    in_a_block ! d.at (λ p. lent_owns core.the_row p x) (nowhere 𝓛 core.the_row x) (λ b o e.
    let returned : z.0.4.0 ≡ one (vptr b o) ∷ [] = ws ∙ ap (λ (p : Ptr). one (ptr_val p) ∷ []) e in
    let w : Val = one (vptr b o) in let out : (lent.the_row).Denot = record { at = block_ptr b o; value = x } in
    suffices ! (Run (w ∷ [])) (subst (λ (us : List Val). ent 𝓤 (Run (w ∷ [])) (Run us)) (sym (λ i. returned i ++ []))
    (id⊢ 𝓤 (Run (w ∷ [])))) $
    enter ! 𝓣.C 𝓣.Λ fn (w ∷ []) Post $ alloc_all ! (λ l. pass_all ! refl ((tt, (tt, tt)), tt) $
    sets ! (of_opd ! (get_in ! (fld ! refl (stop !)) (sub ! 0 refl (whole !)))) refl (tt, tt) $
    sets ! (of_opd ! (get ! refl)) refl (tt, tt) $
    sets ! (agg ! (and_then ! (get ! refl) (no_more !))) refl (tt, (tt, tt)) $
    room_in ! out.at (lent_owns core.the_row out.at out.value) $ use0 𝓛
    (raw (fact 𝓤 ((d.at ≡ out.at) × (d.value ≡ Some x))))
    (fact_i 𝓤 ((d.at ≡ out.at) × (d.value ≡ Some x)) (emp 𝓤) (e, found.1)) $
    nothing ! $ nothing ! $ fjoin ! $ nothing ! $
    returns ! (look_at ! 0 refl) $ free_all ! refl $ keep ! (0 ∷ 1 ∷ 3 ∷ 2 ∷ []) $
    by ! (leaves 𝓛 ended hs c z w out (tt, tt) (tt, tt)))))))

-- `core` shows what every reader sees. Assumes `Logic`.
use Rattle.std.proofs.Common.{◌≡◌, ◌+◌, List, [], ◌∷◌, ◌++◌, refl, sym, subst}
use mir.Val.{Val, vptr}
use base.{Logic.SProp, Logic.ent, Logic.emp, Logic.id⊢, Fml.Lft, Fml.Share, Fml.ftrue, Fml.fhide, Fml.flft}
use prog.Wp.{WpFn}
use types.Kit.{‵, raw, ◌⊛◌, at_ret, ◌$◌, ◌∵◌, !, qed, by, move, keep, split, join, fsplit, fjoin, feq_i, feq_l}
use types.Kit.{suffices, use0, use1}
use types.Run.{stop, hop, fld, addr, of_opd, first, blocks, exec, returns, enter}
use types.ByLocal.{alloc_all, pass_all, free_all, look_at, get, through, sets, sets_last, env}
use types.Part.{look_in, whole}
use contract.{Monad.fact, Monad.fact_i, Running.tables}
use denote.{Builtin.RefOf, Exit.yes, Opens.unhide, Opens.hide}
use denote.{Memory.hidden_shr, RattleType.owns, Steps.nothing, Steps.heard}
use denote.{RawPtr.InBlock, RawPtr.block_of, RawPtr.count_of, Signature.types_at, Signature.plain}
use denote.Struct.Lending.{lent_at, lent_at_shr_laws, in_block_says}
use denote.Triple.Walked.{Stays, stay_dropped, walk_of, Goes-dropped}
use Rattle.core.proofs.alloc.Shapes.{after}
use Rattle.std.proofs.raw_atomic.Walks.{proved_at, leaves}
use Rattle.std_alloc.proofs.Words.{pointer_in, pointer_out}
use Rattle.hlc_handle.specs.Lent.{lent_shares}
use Rattle.hlc_handle.proofs.{Lending.sees, LentWords.Words, LentWords.shows, reader.LentCore.core.Statement.statement}
use Rattle.hlc_handle.specs.contracts.reader.LentCore.core.{ended, clauses, Key.name as #self}
use Rattle.hlc_core.specs.contracts.store.Core as core
use Rattle.hlc_core.proofs.store.Core.TheLaws as core_laws
use Rattle.hlc_handle.specs.contracts.reader.LentCore as lent
use Rattle.hlc_handle.proofs.reader.LentCore.core.Code as code

pub core_spec : {M : Type 1} → statement M
core_spec 𝓤 𝓛 𝓜 𝓡 wired =
    let 𝓣 = tables 𝓤 𝓛.H 𝓜 𝓡 𝓡.env in let c = clauses 𝓛 𝓜.mem 𝓡.returns in let fn = code.function in
    let R = core.the_row in let LR = core_laws.the_row_laws.shr_laws in
    let ref = RefOf (0 ∷ []) tt (plain (λ _. lent.the_row)) (λ _. tt) in
    let hs : Stays ended.signature.params ended.kept = (stay_dropped ref yes, tt) in
    proved_at 𝓛 ended hs c 𝓜 𝓡 (Goes-dropped 𝓛 1 ref yes (λ κs x f. refl), tt) #self fn
    (code.unfolded 𝓤 𝓛.H 𝓜 𝓡 wired) (λ z are.
    let Post : Val → SProp 𝓤 = (walk_of 𝓛 ended hs c).post z in let Run : List Val
    → SProp 𝓤 = λ ws. WpFn 𝓤 𝓛.H 𝓣.C 𝓣.Λ fn ws Post in
    let κ : Lft = z.0.0.0 in let q : Share = z.0.1.0 in let self = z.0.3.0 in let d = self.now in
    let b = self.ref_ptr.0 in let o = self.ref_ptr.1 in let x = d.value.1 in
    let pb = block_of d.at in let po = count_of d.at in
    let w : Val = vptr b o in
    qed 𝓛 (((‵ (flft κ q) ⊛ ‵ ftrue) ⊛ ‵ (owns
    (types_at ended.signature.params z.0.0) z.0.3 z.0.4)) ∷ raw (emp 𝓤) ∷ []) ∵
    split ! $ split ! $ move ! (2 ∷ []) $ fsplit ! $ fsplit ! $ feq_l ! (λ ev.
    keep ! (0 ∷ 2 ∷ 3 ∷ []) $
    use1 𝓛 (‵ (hidden_shr Words κ (d.at, tt) b o) ⊛ ‵ (fhide (lent_shares R d.at d.value κ))) (id⊢ 𝓤 _) $ split ! $
    move ! (1 ∷ []) $ unhide ! $
    use1 𝓛 (‵ (lent_at R d.at x κ)) (sees (lent_at R d.at x) (lent_at_shr_laws R LR d.at x) d.value.0 𝓛 κ) $ fsplit ! $
    use1 𝓛 (raw (fact 𝓤 (InBlock d.at))) (in_block_says 𝓛 d.at) $ heard ! (InBlock d.at) (λ inb. hide ! $
    -- [what every reader sees; the words; the tokens]
    move ! (1 ∷ 2 ∷ []) $
    suffices ! (Run (w ∷ [])) (subst (λ (us : List Val). ent 𝓤 (Run (w ∷ [])) (Run us)) (sym (λ i. ev i ++ []))
    (id⊢ 𝓤 (Run (w ∷ [])))) $
    enter ! 𝓣.C 𝓣.Λ fn (w ∷ []) Post $ alloc_all ! (λ l. pass_all ! refl ((tt, tt), tt) $ let Ev = env fn.locals l in
    first ! $ blocks ! $
    pointer_in ! tt d.at inb b (o + 0) (shows 𝓛 κ b o d) (λ q'.
    sets_last ! (addr ! (through ! refl (fld ! refl (hop ! (look_in ! 1 (whole !)) (stop !))))) refl (tt, tt) $
    exec ! 𝓣.C 𝓣.Λ Ev (after 1 fn.body) (at_ret Ev Post) $
    pointer_out ! tt d.at inb b (o + 0) $
    sets ! (of_opd ! (get ! refl)) refl (tt, tt) $
    -- [the token; the words; what every reader sees; the other tokens]
    move ! (2 ∷ []) $ feq_i ! (List Val) (vptr pb po ∷ []) (vptr pb po ∷ []) refl $ fjoin ! $
    use0 𝓛 (raw (fact 𝓤 (x ≡ x))) (fact_i 𝓤 (x ≡ x) (emp 𝓤) refl) $
    nothing ! $ nothing ! $ fjoin ! $ move ! (3 ∷ 5 ∷ []) $ join ! $
    returns ! (look_at ! 0 refl) $ free_all ! refl $ keep ! (0 ∷ 1 ∷ 3 ∷ 2 ∷ []) $
    by ! (leaves 𝓛 ended hs c z (vptr pb po) (record { ref_ptr = (pb, po); now = x }) (tt, tt) (tt, tt)))))))

-- `find_lent` reads for the lifetime of the loan, of whose token a reader has a part, and not for that of its own `&`:
-- so what it finds may be read for as long as the core is lent. Assumes `Logic`.
use Rattle.std.proofs.Common.{ℕ, ◌+◌, List, [], ◌∷◌, ◌++◌, refl, ap, ◌∙◌, w32, w64, Bor, length}
use Rattle.std.{specs.Prelude.Some, proofs.raw_atomic.Walks.proved, proofs.raw_atomic.Walks.leaves}
use mir.{Syntax.named, Val.Val, Val.vint, Val.vptr, Val.vstruct, Val.vcons, Val.vnil, Val.of_list}
use base.{Logic.SProp, Logic.emp, Logic.id⊢, Logic.ex_e, Logic.snd∗, Fml.Lft, Fml.ftrue, Fml.fhide, Fml.flft}
use types.{Logic.sem, Within.tokens_halve, Tokens.shr_bor-open, Tokens.obor_close}
use types.Kit.{‵, raw, ◌⊛◌, some, later, at_ret, ◌$◌, ◌∵◌, !, qed, by, move, keep, drop, split, join, fsplit, fjoin}
use types.Kit.{fpick, fpack, feq_i, feq_l, flt_l, pick, await, use0, use1}
use types.Run.{stop, hop, fld, addr, from, of_opd, first, blocks, exec, no_more, and_then, returns, enter}
use types.ByLocal.{alloc_all, pass_all, free_all, look_at, look_in_at, get, get_in, through, sets, sets_last, lands_as}
use types.ByLocal.{env}
use types.Part.{agg, look_in, sub, whole}
use contract.{Monad.fact, Monad.fact_i, Running.tables}
use denote.Builtin.{RefOf, SliceRefOf, u8, u32, u64, usize}
use denote.{Exit.yes, Laws.Is, Memory.hidden_shr, Plain.uint_vals, Plain.uint_Tells, Plain.uint_Makes}
use denote.{Opens.unhide, Opens.hide, Ref.shr_vals, Ref.shr_Tells}
use denote.RattleType.{RattleType, Valss, owns}
use denote.RawPtr.{InBlock, block_ptr, block_of, count_of}
use denote.{Signature.Slot, Signature.types_at, Signature.plain, Steps.nothing, Steps.heard, Steps.owned, Steps.only}
use denote.Slice.{ShrSlice, shr_slice_vals, shr_slice_Tells, slice_val}
use denote.Struct.{Struct.within, Lending.in_block_says, Declared.shape as shape_of, Tuple.Tuple, Tuple.tuple_type}
use denote.Triple.{Call.calls_at, Spec.triple_of, Clauses.ensured, Clauses.lasts}
use denote.Triple.Walked.{Stays, stay_dropped, walk_of, Goes-dropped}
use Rattle.core.proofs.{alloc.Shapes.after, atomic.Steps.fm}
use Rattle.std_alloc.proofs.Words.{pointer_in, pointer_out}
use Rattle.hlc_core.specs.{Past.Step, Past.stamp_of, Past.writes, StoreView.Represents}
use Rattle.hlc_handle.specs.{Found.Finds, Found.FindsLent, Lent.lent_shares, Lent.lent_bytes}
use Rattle.hlc_handle.proofs.{LentWords.Words, LentWords.shows, Rooms.one, Rooms.room_in}
use Rattle.hlc_handle.proofs.found.{find.Met.met, find_lent.Statement.statement}
use Rattle.hlc_handle.specs.contracts.found.find_lent.{ended, clauses, Key.name as #self}
use Rattle.hlc_core.specs.contracts.store.Core as core
use Rattle.hlc_handle.specs.contracts.found.LentBytes as bytes
use Rattle.hlc_handle.specs.contracts.reader.LentCore as lent
use Rattle.hlc_handle.specs.contracts.found.find as callee
use Rattle.hlc_handle.proofs.found.find_lent.Code as code

-- what is returned
abbrev Parts : List RattleType
Parts = u32 ∷ usize ∷ bytes.the_row ∷ []

-- the parameters that are references
abbrev readers : Slot 2
readers = RefOf (0 ∷ []) tt (plain (λ _. lent.the_row)) (λ _. tt)

abbrev keys : Slot 2
keys = SliceRefOf (1 ∷ []) tt (plain (λ _. u8)) (λ _. tt)

abbrev stayed : Stays ended.signature.params ended.kept
stayed = (stay_dropped readers yes, (stay_dropped (plain (λ _. u64)) yes, (stay_dropped keys yes, tt)))

pub find_lent_spec : {M : Type 1} → statement M
find_lent_spec 𝓤 𝓛 𝓜 𝓡 wired =
    let 𝓣 = tables 𝓤 𝓛.H 𝓜 𝓡 𝓡.env in let c = clauses 𝓛 𝓜.mem 𝓡.returns in let fn = code.function in
    let R = core.the_row in
    proved 𝓛 ended stayed c 𝓜 𝓡 (
      Goes-dropped 𝓛 2 readers yes (λ κs x f. refl),
      (
        Goes-dropped 𝓛 2 (plain (λ _. u64)) yes (λ κs x f. refl),
        (Goes-dropped 𝓛 2 keys yes (λ κs x f. refl), tt),
      ),
    ) #self fn (code.unfolded 𝓤 𝓛.H 𝓜 𝓡 wired)
    (λ κs. (shr_vals, (uint_vals w64, (shr_slice_vals, tt))))
    (λ κs. (shr_Tells (named 0) κs.0 lent.the_row, (uint_Tells w64, (shr_slice_Tells (named 1) κs.1.0 u8, tt))))
    (λ κs qs bounds a _ are.
    let κ = κs.0 in let q = qs.0 in let κ' = κs.1.0 in let q' = qs.1.0 in
    let self = a.0 in let id = a.1.0 in let key = a.1.1.0 in let d = self.now in
    let b = self.ref_ptr.0 in let o = self.ref_ptr.1 in let loan = d.value.0 in let x = d.value.1 in
    let pb = block_of d.at in let po = count_of d.at in let α : Lft = loan ∷ [] in
    let fid = are.1.0.1 in let fkey = are.1.1.0.0.1.0 in
    let idv : Val = vint w64 id in let keyv : Val = slice_val key.ref_ptr (length key.now) in
    let vs : List Val × (List Val × (List Val × Unit {0})) = (vptr b o ∷ [], (idv ∷ [], (keyv ∷ [], tt))) in
    let z : (walk_of 𝓛 ended stayed c).Ghost = ((κs, qs, bounds, a, vs), tt) in
    let Post : Val → SProp 𝓤 = (walk_of 𝓛 ended stayed c).post z in
    qed 𝓛 (((‵ (flft κ q) ⊛ (‵ (flft κ' q') ⊛ ‵ ftrue)) ⊛ ‵ (owns
    (types_at ended.signature.params κs) a vs)) ∷ raw (emp 𝓤) ∷ []) ∵
    split ! $ split ! $ move ! (2 ∷ []) $ fsplit ! $ fsplit ! $ drop ! $
    use1 𝓛 (‵ (hidden_shr Words κ (d.at, tt) b o) ⊛ ‵ (fhide (lent_shares R d.at d.value κ))) (id⊢ 𝓤 _) $ split ! $
    -- [the words; what a `&` to the reader has; the other parameters; the two tokens; nothing]
    move ! (1 ∷ []) $ unhide ! $ fsplit ! $ move ! (1 ∷ []) $ fsplit ! $
    use1 𝓛 (raw (fact 𝓤 (InBlock d.at))) (in_block_says 𝓛 d.at) $ heard ! (InBlock d.at) (λ inb. hide ! $
    -- [what every reader sees; a share of the loan's token, lent; the words; the parameters; the tokens; nothing]
    move ! (2 ∷ 4 ∷ []) $
    enter ! 𝓣.C 𝓣.Λ fn (vptr b o ∷ idv ∷ keyv ∷ []) Post $ alloc_all ! (λ l.
    pass_all ! refl ((tt, tt), ((tt, record { fits = fid }), ((tt, (tt, (record { fits = fkey }, tt))), tt))) $
    let Ev = env fn.locals l in
    -- unsafe { &*lent.at }
    first ! $ blocks ! $
    pointer_in ! tt d.at inb b (o + 0) (shows 𝓛 κ b o d) (λ _.
    sets_last ! (addr ! (through ! refl (fld ! refl (hop ! (look_in ! 1 (whole !)) (stop !))))) refl (tt, tt) $
    exec ! 𝓣.C 𝓣.Λ Ev (after 1 fn.body) (at_ret Ev Post) $
    pointer_out ! tt d.at inb b (o + 0) $
    sets ! (of_opd ! (get ! refl)) refl (tt, tt) $
    sets ! (of_opd ! (get ! refl)) refl (tt, record { fits = fid }) $
    sets ! (of_opd ! (get ! refl)) refl (tt, (tt, (record { fits = fkey }, tt))) $
    -- [the first token; the words; what every reader sees; a share of the loan's token, lent; ..]
    move ! (3 ∷ 0 ∷ []) $ shr_bor-open ! tt (tokens_halve 𝓛 α) (λ s.
    -- [the way back; a share of the loan's token; the words; what every reader sees; the parameters; the other token]
    let ref : Bor R.Denot = record { ref_ptr = (pb, po); now = x } in
    let k = triple_of 𝓛 callee.signature (callee.spec 𝓛 𝓜.mem 𝓡.returns) in
    let y : k.Ghost = (
      (
        (α, (κ', tt)),
        (s, (q', tt)),
        tt,
        (ref, (id, (key, tt))),
        (vptr pb po ∷ [], (idv ∷ [], (keyv ∷ [], tt))),
      ),
      tt,
    ) in
    move ! (3 ∷ []) $ feq_i ! (List Val) (vptr pb po ∷ []) (vptr pb po ∷ []) refl $ fjoin ! $
    move ! (0 ∷ 4 ∷ []) $ fjoin ! $ move ! (2 ∷ 4 ∷ []) $ join ! $ join ! $
    move ! (0 ∷ 3 ∷ []) $ join ! $ use1 𝓛 (raw (k.pre y)) (id⊢ 𝓤 _) $
    -- find(.., id, key)
    calls_at ! (fm 𝓛 𝓜 𝓡) k (met 𝓤 𝓛 𝓜 𝓡 (code.calls-hlc_handle::found::find 𝓡.env wired)) y
    (and_then ! (get ! refl) (and_then ! (get ! refl) (and_then ! (get ! refl) (no_more !)))) (λ u.
    use1 𝓛 (later (some (λ (r : ℕ × Bor (List ℕ)). ((‵ (flft α s) ⊛ (‵ (flft κ' q') ⊛ ‵ ftrue))
    ⊛ ‵ ((Tuple (u32 ∷ ShrSlice (named 0) α u8 ∷ [])).own_val r (u ∷ [])))
    ⊛ raw (ensured 𝓛 callee.ended (callee.clauses 𝓛 𝓜.mem 𝓡.returns) y.0.0 y.0.3 tt r)))) (id⊢ 𝓤 _) $
    await ! tt $ pick ! (λ r. split ! $ move ! (1 ∷ []) $
    let n = length r.1.now in let rb = r.1.ref_ptr.0 in let ro = r.1.ref_ptr.1 in let lent' = Some (loan, r.1.now) in
    let Found : Type 0 = (past : List Step) → Represents x past
    → Finds (stamp_of id past) (writes past) key.now r.0 r.1.now in
    let Lent : Type 0 = (past : List Step) → Represents x past
    → FindsLent (stamp_of id past) (writes past) key.now loan r.0 n lent' in
    use1 𝓛 (raw (fact 𝓤 Found)) (ex_e 𝓤 _ (λ ws. snd∗ 𝓤 (sem 𝓛 (lasts callee.ended y.0.0 y.0.3 ws)) (fact 𝓤 Found))) $
    heard ! Found (λ e. split ! $ split ! $
    -- [a share of the loan's token; the other token; what was found; the way back; the words]
    move ! (3 ∷ 0 ∷ []) $ obor_close ! tt $ drop ! $ move ! (2 ∷ []) $
    fpick ! (λ vss. fsplit ! $ feq_l ! (λ eu. fsplit ! $ fsplit ! $ feq_l ! (λ ec. flt_l ! (λ fc.
    fsplit ! $ fsplit ! $ fsplit ! $ feq_l ! (λ es. fsplit ! $ flt_l ! (λ fl. flt_l ! (λ _.
    -- [the bytes, for the loan; nothing; the two tokens; the words]
    let cv : Val = vint w32 r.0 in let nv : Val = vint w64 n in let lv : Val = one (vptr rb ro) in
    let w : Val = vstruct (vcons cv (vcons nv (vcons lv vnil))) in
    let lb : (bytes.the_row).Denot = record { at = block_ptr rb ro; value = lent' } in
    let out : (Tuple Parts).Denot = (r.0, n, lb) in
    -- let (code, found) = ..
    lands_as ! (ap only (eu ∙ (λ j. vstruct (of_list (ec j ++ (es j ++ []))) ∷ []))) refl
    (tt, (record { fits = fc }, ((tt, (record { fits = fl }, tt)), tt))) $
    sets ! (of_opd ! (get_in ! (fld ! refl (stop !)) (sub ! 0 refl (whole !)))) refl (tt, record { fits = fc }) $
    sets ! (of_opd ! (get_in ! (fld ! refl (stop !)) (sub ! 1 refl (whole !)))) refl
    (tt, (tt, (record { fits = fl }, tt))) $
    -- code, found.len(), found.as_ptr()
    sets ! (of_opd ! (get ! refl)) refl (tt, record { fits = fc }) $
    sets ! (of_opd ! (get_in ! (fld ! refl (stop !)) (sub ! 1 refl (whole !)))) refl (tt, record { fits = fl }) $
    sets ! (addr ! (from ! (fld ! refl (hop ! (look_in_at ! 5 (sub ! 0 refl (whole !))) (stop !))))) refl (tt, tt) $
    sets ! (agg ! (and_then ! (get ! refl) (no_more !))) refl (tt, (tt, tt)) $
    sets ! (agg ! (and_then ! (get ! refl) (and_then ! (get ! refl) (and_then ! (get ! refl) (no_more !))))) refl
    (tt, (record { fits = fc }, (record { fits = fl }, ((tt, tt), tt)))) $
    move ! (1 ∷ 0 ∷ []) $ fjoin ! $ room_in ! lb.at (lent_bytes lb.at lb.value) $
    nothing ! $ move ! (1 ∷ 0 ∷ []) $ fjoin ! $
    owned ! usize (Is usize) (uint_Makes 𝓛 w64) n (nv ∷ []) (refl, fl) $ fjoin ! $
    owned ! u32 (Is u32) (uint_Makes 𝓛 w32) r.0 (cv ∷ []) (refl, fc) $ fjoin ! $
    feq_i ! (List Val) (w ∷ []) (w ∷ []) refl $ fjoin ! $
    fpack ! (Valss Parts) (within (shape_of (tuple_type Parts)) (r.0, (n, (lb, tt))) (w ∷ []))
    (cv ∷ [], (nv ∷ [], (lv ∷ [], tt))) $
    use0 𝓛 (raw (fact 𝓤 Lent)) (fact_i 𝓤 Lent (emp 𝓤) (λ past rep. (r.1.now, e past rep, refl, refl))) $
    -- [the `ensures`; the result; the two tokens; the words]
    move ! (2 ∷ 3 ∷ []) $ join ! $
    nothing ! $ nothing ! $ fjoin ! $ nothing ! $ fjoin ! $ nothing ! $ fjoin ! $
    returns ! (look_at ! 0 refl) $ free_all ! refl $ keep ! (1 ∷ 0 ∷ 3 ∷ 2 ∷ []) $
    by ! (leaves 𝓛 ended stayed c z w out (tt, (tt, (tt, tt))) (tt, (tt, (tt, tt)))))))))))))))))))

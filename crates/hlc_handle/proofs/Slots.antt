-- What every handle of a box does, whichever type is in the box: `none`, `of` and `loose`. Assumes `Logic`.
use Rattle.std.proofs.Common.{◌≡◌, ℕ, List, [], ◌∷◌, ◌++◌, refl, sym, ap, ◌∙◌, subst, lit<, w64, Bool, true, false}
use Rattle.std.proofs.Common.{Option, Some, None, MatchOption, is_some, w8, T}
use seplogic.Ra.Ura.{Ura}
use mir.Syntax.{impl, tnil, dnil, Fn, Body, Callee, Local, local, value_local, ty_ptr, ty_bool, assign, place, field}
use mir.Syntax.{rv_opd, op1, bit_not, copy, int, opd_true, opd_false, aggregate, cond, skip, seq, return}
use mir.{Raw.raw as bare, Val.Val, Val.vptr, Val.vbool, Val.vstruct, Val.of_list, Val.has_ty, Val.WT}
use base.{Logic.SProp, Logic.ent, Logic.emp, Logic.id⊢, Logic.never, Logic.fst∗, Fml.Fml, Fml.feq, Fml.fsep, Fml.ftrue}
use prog.{Model.Model, Wp.WpFn, Wp.Closed}
use types.{Logic.Logic, Logic.sem, Match.live as alive_at, Part.agg, Part.sub, Part.whole}
use types.Kit.{Item, Goal, Seq, Sq, prop, Step, step, ‵, raw, ◌⊛◌, at_ret, ◌$◌, ◌∵◌, !, qed, by, move, keep, drop}
use types.Kit.{split, fsplit, fjoin, fpick, fpack, feq_i, feq_l, suffices, use0, use1, rewrite}
use types.Run.{stop, fld, of_opd, lit, un, true_lit, false_lit, no_more, and_then, first, branches, skips, exec, enter}
use types.Run.{returns, returns_within}
use types.ByLocal.{alloc_all, pass_all, free_all, look_at, get, get_in, sets, env}
use contract.{Monad.fact, Monad.fact_i, Running.Running, Running.tables}
use denote.{Builtin.RawPtr, Builtin.bool, Exit.yes, Exit.hidden, Exit.under}
use denote.{Memory.lone, Param.layout, Steps.nothing, Signature.types_at, Signature.plain}
use denote.RattleType.{RattleType, Valss, owns}
use denote.RawPtr.{Ptr, block_ptr, null_ptr, ptr_val, in_a_block}
use denote.Struct.Field.{RawPtr-field, bool-field, rows}
use denote.Struct.{Owning.Owning, Owning.row, Struct.exits_of, Values.intos}
use denote.Triple.{Clauses.Ended, Clauses.Clauses, Clauses.closing, Entry.alive, Spec.Meets}
use denote.Triple.Walked.{Stays, stay_dropped, walk_of}
use Rattle.core.proofs.alloc.Calls.{Al, Goes-blank, handle_tells}
use Rattle.core.proofs.{cell.Inside.Good, option.Made.Some-of, option.Made.none_of}
use Rattle.std.proofs.raw_atomic.Walks.{proved_at, leaves}
use Rattle.std_heap.specs.contracts.GlobalAllocator.TheImpl.{ghosts}
use Rattle.std_alloc.{specs.Box.Ownership.box_owns, proofs.RcSteps.some_Good}
use Rattle.hlc_handle.specs.Slot.{slot_owns}
use Rattle.hlc_handle.proofs.Values.{both, Loose, loose_good, loose_in, loose_out}
use Rattle.core.specs.contracts.option.Option as option
use Rattle.std.specs.contracts.alloc.Global as heap
use Rattle.std.proofs.alloc.Global.TheLaws as heap_laws

-- a struct of a pointer and a flag, whose ghost field is what is in the box at the pointer, and which owns that box
pub record Slot (R : RattleType) : Type 2 where
  pub struct : Owning
  pub at : struct.D → Ptr
  pub live : struct.D → Bool
  pub value : struct.D → Option R.Denot
  pub same : (d : struct.D) → live d ≡ is_some (value d)
  pub make : Ptr → Option R.Denot → struct.D
  pub made : (p : Ptr) (v : Option R.Denot) → (at (make p v) ≡ p) × (value (make p v) ≡ v)
  pub owned : (d : struct.D) → struct.heap d ≡ slot_owns R (at d) (value d)

-- the machine value of such a struct
abbrev word : Ptr → Bool → Val
word p b = both (ptr_val p) (vbool b)

word_good : (p : Ptr) → T (has_ty ty_ptr (ptr_val p)) × WT (ptr_val p)
word_good (block_ptr b o) = (tt, tt)
word_good null_ptr = (tt, record { fits = lit< tt })

-- the code of a function with this many parameters among its locals
abbrev code : ℕ → List Local → Body → Fn
code n locals body = record {
  lifetimes = 0;
  outlives = [];
  ty_params = [];
  givens = 0;
  params = n;
  locals = locals;
  body = body;
}

module _ (R : RattleType) (S : Slot R) where
  -- its row
  abbrev pub the_row : RattleType
  the_row = row (record {
    name = S.struct.name;
    args = [];
    types = [];
    parts = RawPtr-field ∷ bool-field ∷ [];
    D = S.struct.D;
    as_values = λ d. (S.at d, (S.live d, tt));
    coded = S.struct.coded;
    heap = S.struct.heap;
    exit = λ k. hidden (under (λ d. intos (RawPtr-field ∷ bool-field ∷ []) (S.at d, (S.live d, tt)))
        (exits_of k (rows (RawPtr-field ∷ bool-field ∷ []))));
    shr_at = S.struct.shr_at;
  })

  abbrev Box : RattleType
  Box = Loose R heap.the_row heap_laws.the_row_laws ghosts

  -- the values are those of the struct
  abbrev are : S.struct.D → List Val → Valss (RawPtr ∷ bool ∷ []) → Fml
  are d vs vss =
      fsep (feq (List Val) vs (vstruct (of_list (vss.0 ++ (vss.1.0 ++ []))) ∷ []))
      (fsep (feq (List Val) vss.0 (ptr_val (S.at d) ∷ []))
      (fsep (feq (List Val) vss.1.0 (vbool (S.live d) ∷ [])) ftrue))

  module _ {M : Type 1} {𝓤 : Ura M} {𝓛 : Logic 𝓤} {K : Type 0} {Γ : List (Item 𝓤)} {G : Goal 𝓤 𝓛.H} where
    -- a handle is its words and what it owns
    slot_out : K → (d : S.struct.D) (vs : List Val) → (vs ≡ word (S.at d) (S.live d) ∷ []
        → Seq K 𝓛 (‵ (slot_owns R (S.at d) (S.value d)) ∷ Γ) G) → Seq K 𝓛 (‵ (the_row.own_val d vs) ∷ Γ) G
    slot_out t d vs k =
        fsplit t $ fpick t (λ vss. fsplit t $ feq_l t (λ ev. fsplit t $ feq_l t (λ ep. fsplit t $ feq_l t (λ eb.
        drop t $ rewrite t 0 (λ (F : Fml). ‵ F) (S.owned d) refl $
        k (subst (λ (bs : List Val). vs ≡ vstruct (of_list (ptr_val (S.at d) ∷ (bs ++ []))) ∷ []) eb
        (subst (λ (ps : List Val). vs ≡ vstruct (of_list (ps ++ (vss.1.0 ++ []))) ∷ []) ep ev))))))

    -- and is made of them
    slot_made : K → (p : Ptr) (v : Option R.Denot)
        → Step K 𝓛 (‵ (the_row.own_val (S.make p v) (word p (is_some v) ∷ [])) ∷ Γ) G (‵ (slot_owns R p v) ∷ Γ) G
    slot_made t p v = step (λ s.
        let d = S.make p v in let is = S.made p v in let flag = S.same d ∙ ap is_some is.1 in
        let ps : List Val = ptr_val (S.at d) ∷ [] in let bs : List Val = vbool (S.live d) ∷ [] in
        let w : Val = word (S.at d) (S.live d) in
        rewrite t 0 (λ (F : Fml). ‵ F) (sym (S.owned d ∙ (λ i. slot_owns R (is.0 i) (is.1 i)))) refl $
        nothing t $ feq_i t (List Val) bs bs refl $ fjoin t $ feq_i t (List Val) ps ps refl $ fjoin t $
        feq_i t (List Val) (w ∷ []) (w ∷ []) refl $ fjoin t $
        fpack t (Valss (RawPtr ∷ bool ∷ [])) (are d (w ∷ [])) (ps, (bs, tt)) $ fjoin t $
        rewrite t 0 (λ (u : Val). ‵ (the_row.own_val d (u ∷ []))) (λ i. word (is.0 i) (flag i)) refl $ s)

  -- `none`, where nothing is at null
  abbrev pub none_code : Fn
  none_code =
      code 0 (local (lone the_row.mir) value_local ∷ [])
      (seq (assign (place 0 []) (aggregate (int w64 0 ∷ opd_false ∷ []))) return)

  abbrev pub none_ended : Ended
  none_ended = record {
    signature = record { lifetimes = 0; outlives = []; params = []; result = plain (λ _. the_row) };
    kept = tt;
  }

  abbrev pub none_clauses : {M : Type 1} (𝓤 : Ura M) → Clauses 𝓤 none_ended
  none_clauses 𝓤 κs a = record {
    ghost = Unit {0};
    requires = λ _. emp 𝓤;
    ensures = λ _ r _. fact 𝓤 (S.value r ≡ None);
  }

  pub none_met : {M : Type 1} (𝓤 : Ura M) (𝓛 : Logic 𝓤) (𝓜 : Model 𝓤 𝓛.H) (𝓡 : Running 𝓤 𝓛.H 𝓜) (k : Callee)
      → Closed 𝓤 𝓛.H (tables 𝓤 𝓛.H 𝓜 𝓡 𝓡.env).C (tables 𝓤 𝓛.H 𝓜 𝓡 𝓡.env).Λ k none_code
      → Meets 𝓛 none_ended.signature ((tables 𝓤 𝓛.H 𝓜 𝓡 𝓡.env).C k) (closing 𝓛 none_ended (none_clauses 𝓤))
  none_met 𝓤 𝓛 𝓜 𝓡 k unfolded =
      let 𝓣 = tables 𝓤 𝓛.H 𝓜 𝓡 𝓡.env in let c = none_clauses 𝓤 in
      let hs : Stays none_ended.signature.params none_ended.kept = tt in
      proved_at 𝓛 none_ended hs c 𝓜 𝓡 tt k none_code unfolded (λ z are.
      let Post : Val → SProp 𝓤 = (walk_of 𝓛 none_ended hs c).post z in
      let v : Option R.Denot = None in let d = S.make null_ptr v in
      qed 𝓛 ((‵ ftrue ⊛ ‵ ftrue) ∷ ‵ ftrue ∷ []) ∵
      enter ! 𝓣.C 𝓣.Λ none_code [] Post $ alloc_all ! (λ l. pass_all ! refl tt $
      sets ! (agg ! (and_then ! (lit ! tt) (and_then ! (false_lit !) (no_more !)))) refl
      (tt, (record { fits = lit< tt }, (tt, tt))) $
      nothing ! $ slot_made ! null_ptr v $
      use0 𝓛 (raw (fact 𝓤 (S.value d ≡ v))) (fact_i 𝓤 (S.value d ≡ v) (emp 𝓤) (S.made null_ptr v).1) $
      nothing ! $ nothing ! $
      returns ! (look_at ! 0 refl) $ free_all ! refl $ keep ! (0 ∷ 1 ∷ 3 ∷ 2 ∷ []) $
      by ! (leaves 𝓛 none_ended hs c z (word null_ptr false) d tt tt)))

  -- `of`, where the box's pointer is stored
  abbrev pub of_code : Fn
  of_code =
      code 1 (local (lone the_row.mir) value_local ∷ local (lone Box.mir) value_local ∷ local ty_ptr value_local
      ∷ local ty_ptr value_local ∷ [])
      (seq (assign (place 2 []) (rv_opd (copy (place 1 (field 0 ∷ [])))))
      (seq (assign (place 3 []) (rv_opd (copy (place 2 []))))
      (seq (assign (place 0 []) (aggregate (copy (place 3 []) ∷ opd_true ∷ []))) return)))

  abbrev pub of_ended : Ended
  of_ended = record {
    signature = record {
      lifetimes = 0;
      outlives = [];
      params = plain (λ _. Box) ∷ [];
      result = plain (λ _. the_row);
    };
    kept = (yes, tt);
  }

  abbrev pub of_clauses : {M : Type 1} (𝓤 : Ura M) → Clauses 𝓤 of_ended
  of_clauses 𝓤 κs a = record {
    ghost = Unit {0};
    requires = λ _. emp 𝓤;
    ensures = λ _ r _. fact 𝓤 (S.value r ≡ Some (a.0).value);
  }

  pub of_met : {M : Type 1} (𝓤 : Ura M) (𝓛 : Logic 𝓤) (𝓜 : Model 𝓤 𝓛.H) (𝓡 : Running 𝓤 𝓛.H 𝓜) (k : Callee)
      → Closed 𝓤 𝓛.H (tables 𝓤 𝓛.H 𝓜 𝓡 𝓡.env).C (tables 𝓤 𝓛.H 𝓜 𝓡 𝓡.env).Λ k of_code
      → Meets 𝓛 of_ended.signature ((tables 𝓤 𝓛.H 𝓜 𝓡 𝓡.env).C k) (closing 𝓛 of_ended (of_clauses 𝓤))
  of_met 𝓤 𝓛 𝓜 𝓡 k unfolded =
      let 𝓣 = tables 𝓤 𝓛.H 𝓜 𝓡 𝓡.env in let c = of_clauses 𝓤 in let fn = of_code in
      let Z = heap.the_row in let LZ = heap_laws.the_row_laws in
      let L = plain (λ _. Box) in
      let hs : Stays of_ended.signature.params of_ended.kept = (stay_dropped L of_ended.kept.0, tt) in
      proved_at 𝓛 of_ended hs c 𝓜 𝓡 (Goes-blank 𝓛 0 L of_ended.kept.0 (λ κs x f. tt), tt) k fn unfolded (λ z are.
      let Post : Val → SProp 𝓤 = (walk_of 𝓛 of_ended hs c).post z in let Run : List Val
      → SProp 𝓤 = λ ws. WpFn 𝓤 𝓛.H 𝓣.C 𝓣.Λ fn ws Post in
      let box = z.0.3.0 in let v : Option R.Denot = Some box.value in
      qed 𝓛 ((raw (alive 𝓛 of_ended.signature z.0.0 z.0.1) ⊛ ‵ (owns
      (types_at of_ended.signature.params z.0.0) z.0.3 z.0.4)) ∷ raw (emp 𝓤) ∷ []) ∵
      split ! $ move ! (1 ∷ []) $ fsplit ! $ loose_out R Z LZ ghosts ! box z.0.4.0 (λ b o h e ws fits.
      let w : Val = both (vptr b o) h in let d = S.make (block_ptr b o) v in
      suffices ! (Run (w ∷ [])) (subst (λ (us : List Val). ent 𝓤 (Run (w ∷ [])) (Run us)) (sym (λ i. ws i ++ []))
      (id⊢ 𝓤 (Run (w ∷ [])))) $
      enter ! 𝓣.C 𝓣.Λ fn (w ∷ []) Post $ alloc_all ! (λ l. pass_all ! refl (loose_good R Z LZ ghosts b o h fits, tt) $
      -- [the box at its pointer; the handle; nothing; the tokens; the locals]
      sets ! (of_opd ! (get_in ! (fld ! refl (stop !)) (sub ! 0 refl (whole !)))) refl (tt, tt) $
      sets ! (of_opd ! (get ! refl)) refl (tt, tt) $
      sets ! (agg ! (and_then ! (get ! refl) (and_then ! (true_lit !) (no_more !)))) refl (tt, (tt, (tt, tt))) $
      slot_made ! (block_ptr b o) v $
      use0 𝓛 (raw (fact 𝓤 (S.value d ≡ v))) (fact_i 𝓤 (S.value d ≡ v) (emp 𝓤) (S.made (block_ptr b o) v).1) $
      nothing ! $ nothing ! $ fjoin ! $ nothing ! $
      returns ! (look_at ! 0 refl) $ free_all ! refl $ keep ! (0 ∷ 1 ∷ 3 ∷ 2 ∷ []) $
      by ! (leaves 𝓛 of_ended hs c z (word (block_ptr b o) true) d (tt, tt) (tt, tt)))))

  -- `loose`, where the pointer is that of a box, if the flag says so
  abbrev pub loose_rest : Body
  loose_rest =
      seq (assign (place 6 []) (rv_opd (copy (place 3 []))))
      (seq (assign (place 7 []) (aggregate (copy (place 6 []) ∷ copy (place 2 []) ∷ [])))
      (seq (assign (place 0 []) (aggregate (int w8 1 ∷ copy (place 7 []) ∷ []))) return))

  abbrev pub loose_code : Fn
  loose_code =
      code 2 (local (lone (option.the_row Box).mir) value_local ∷ local (lone the_row.mir) value_local
      ∷ local (lone (heap.the_row).mir) value_local ∷ local ty_ptr value_local ∷ local ty_bool value_local
      ∷ local ty_bool value_local ∷ local ty_ptr value_local ∷ local (lone Box.mir) value_local ∷ [])
      (seq (assign (place 3 []) (rv_opd (copy (place 1 (field 0 ∷ [])))))
      (seq (assign (place 4 []) (rv_opd (copy (place 1 (field 1 ∷ [])))))
      (seq (assign (place 5 []) (op1 bit_not (copy (place 4 []))))
      (seq (cond (copy (place 5 [])) (seq (assign (place 0 []) (aggregate (int w8 0 ∷ []))) return) skip)
      loose_rest))))

  abbrev pub loose_ended : Ended
  loose_ended = record {
    signature = record {
      lifetimes = 0;
      outlives = [];
      params = plain (λ _. the_row) ∷ plain (λ _. heap.the_row) ∷ [];
      result = plain (λ _. option.the_row Box);
    };
    kept = (yes, (yes, tt));
  }

  abbrev Taken : S.struct.D → Option Box.Denot → Type 0
  Taken d r = MatchOption r (S.value d ≡ None) (λ box. S.value d ≡ Some box.value)

  abbrev pub loose_clauses : {M : Type 1} (𝓤 : Ura M) → Clauses 𝓤 loose_ended
  loose_clauses 𝓤 κs a = record {
    ghost = Unit {0};
    requires = λ _. emp 𝓤;
    ensures = λ _ r _. fact 𝓤 (Taken a.0 r);
  }

  abbrev loose_stay : Stays loose_ended.signature.params loose_ended.kept
  loose_stay = (
    stay_dropped (plain (λ _. the_row)) loose_ended.kept.0,
    (stay_dropped (plain (λ _. heap.the_row)) loose_ended.kept.1.0, tt),
  )

  slot_good : (p : Ptr) (b : Bool) → T (has_ty (lone the_row.mir) (word p b)) × WT (word p b)
  slot_good (block_ptr c o) b = (tt, (tt, (tt, tt)))
  slot_good null_ptr b = (tt, (record { fits = lit< tt }, (tt, tt)))

  module _ {M : Type 1} (𝓤 : Ura M) (𝓛 : Logic 𝓤) (𝓜 : Model 𝓤 𝓛.H) (𝓡 : Running 𝓤 𝓛.H 𝓜)
      (z : (walk_of 𝓛 loose_ended loose_stay (loose_clauses 𝓤)).Ghost) where
    abbrev d : S.struct.D
    d = z.0.3.0

    abbrev Post : Val → SProp 𝓤
    Post = (walk_of 𝓛 loose_ended loose_stay (loose_clauses 𝓤)).post z

    abbrev Runs : List Val → SProp 𝓤
    Runs ws = WpFn 𝓤 𝓛.H (tables 𝓤 𝓛.H 𝓜 𝓡 𝓡.env).C (tables 𝓤 𝓛.H 𝓜 𝓡 𝓡.env).Λ loose_code ws Post

    abbrev Walks : Type 1
    Walks = ent 𝓤 ((walk_of 𝓛 loose_ended loose_stay (loose_clauses 𝓤)).pre z)
        (Runs ((walk_of 𝓛 loose_ended loose_stay (loose_clauses 𝓤)).args z))

    begins : (v : Option R.Denot) → S.value d ≡ v → ((h : Val) → Good (layout heap.the_row) h
        → Sq 𝓛 (‵ (slot_owns R (S.at d) v) ∷ ‵ ((heap.the_row).own_val z.0.3.1.0 (h ∷ [])) ∷ [])
        (prop (Runs (word (S.at d) (is_some v) ∷ h ∷ [])))) → Walks
    begins v found k =
        let al : Al = record {
          row = heap.the_row;
          laws = heap_laws.the_row_laws;
          g = ghosts;
          d = impl [] tnil dnil;
          drops = impl [] tnil dnil;
        } in
        qed 𝓛 ((raw (alive 𝓛 loose_ended.signature z.0.0 z.0.1) ⊛ ‵ (owns
        (types_at loose_ended.signature.params z.0.0) z.0.3 z.0.4)) ∷ raw (emp 𝓤) ∷ []) ∵
        split ! $ move ! (1 ∷ []) $ fsplit ! $ slot_out ! d z.0.4.0 (λ ws. move ! (1 ∷ []) $ fsplit ! $
        handle_tells al ! z.0.3.1.0 z.0.4.1.0 (λ h eh fits. keep ! (2 ∷ 0 ∷ []) $
        rewrite ! 0 (λ (y : Option R.Denot). ‵ (slot_owns R (S.at d) y)) found refl $
        let flag = S.same d ∙ ap is_some found in let w : Val = word (S.at d) (is_some v) in
        let is : z.0.4.0 ≡ w ∷ [] = ws ∙ (λ i. word (S.at d) (flag i) ∷ []) in
        suffices ! (Runs (w ∷ h ∷ [])) (subst (λ (us : List Val). ent 𝓤 (Runs (w ∷ h ∷ [])) (Runs us))
        (sym (λ i. is i ++ (eh i ++ []))) (id⊢ 𝓤 (Runs (w ∷ h ∷ [])))) $ k h fits))

    walks : (v : Option R.Denot) → S.value d ≡ v → Walks
    walks None found = begins None found (λ h fits. drop ! $
        enter ! (tables 𝓤 𝓛.H 𝓜 𝓡 𝓡.env).C (tables 𝓤 𝓛.H 𝓜 𝓡 𝓡.env).Λ loose_code (word (S.at d) false ∷ h ∷ []) Post $
        alloc_all ! (λ l. pass_all ! refl (slot_good (S.at d) false, (fits, tt)) $
        sets ! (of_opd ! (get_in ! (fld ! refl (stop !)) (sub ! 0 refl (whole !)))) refl (word_good (S.at d)) $
        sets ! (of_opd ! (get_in ! (fld ! refl (stop !)) (sub ! 1 refl (whole !)))) refl (tt, tt) $
        sets ! (un ! (get ! refl) tt) refl (tt, tt) $ first ! $ branches ! (get ! refl)
        (λ _. sets ! (agg ! (and_then ! (lit ! tt) (no_more !))) refl (tt, (record { fits = lit< tt }, tt)) $
        use0 𝓛 (‵ ((option.the_row Box).own_val None (alive_at 0 (of_list []) ∷ []))) (none_of 𝓛 Box) $
        use0 𝓛 (raw (fact 𝓤 (Taken d None))) (fact_i 𝓤 (Taken d None) (emp 𝓤) found) $
        nothing ! $ nothing ! $ fjoin ! $ nothing ! $ fjoin ! $ nothing ! $
        returns_within ! Post refl (look_at ! 0 refl) $ free_all ! refl $ keep ! (0 ∷ 1 ∷ 3 ∷ 2 ∷ []) $
        by ! (leaves 𝓛 loose_ended loose_stay (loose_clauses 𝓤) z (alive_at 0 (of_list [])) None (tt, (tt, tt))
        (tt, (tt, tt)))) (λ no. absurd no)))
    walks (Some x) found = begins (Some x) found (λ h fits.
        let Z = heap.the_row in let LZ = heap_laws.the_row_laws in
        let a = z.0.3.1.0 in let token = ghosts.dealloc_token a in
        in_a_block ! (S.at d) (λ p. box_owns token R p x)
        (fst∗ 𝓤 (never 𝓤) (sem 𝓛 (token (bare (lone R.mir)) null_ptr))) (λ b o e.
        let us : List Val = word (block_ptr b o) true ∷ h ∷ [] in
        let box : Box.Denot = record { at = block_ptr b o; alloc = a; value = x } in
        let w : Val = both (vptr b o) h in let typed = loose_good R Z LZ ghosts b o h fits in
        suffices ! (Runs us) (subst (λ (p : Ptr). ent 𝓤 (Runs us) (Runs (word p true ∷ h ∷ []))) (sym e)
        (id⊢ 𝓤 (Runs us))) $
        enter ! (tables 𝓤 𝓛.H 𝓜 𝓡 𝓡.env).C (tables 𝓤 𝓛.H 𝓜 𝓡 𝓡.env).Λ loose_code us Post $
        alloc_all ! (λ l. pass_all ! refl (slot_good (block_ptr b o) true, (fits, tt)) $
        sets ! (of_opd ! (get_in ! (fld ! refl (stop !)) (sub ! 0 refl (whole !)))) refl (tt, tt) $
        sets ! (of_opd ! (get_in ! (fld ! refl (stop !)) (sub ! 1 refl (whole !)))) refl (tt, tt) $
        sets ! (un ! (get ! refl) tt) refl (tt, tt) $ first ! $ branches ! (get ! refl) (λ no. absurd no)
        (λ _. skips ! $ exec ! (tables 𝓤 𝓛.H 𝓜 𝓡 𝓡.env).C (tables 𝓤 𝓛.H 𝓜 𝓡 𝓡.env).Λ (env loose_code.locals l)
        loose_rest (at_ret (env loose_code.locals l) Post) $
        sets ! (of_opd ! (get ! refl)) refl (tt, tt) $
        sets ! (agg ! (and_then ! (get ! refl) (and_then ! (get ! refl) (no_more !)))) refl typed $
        sets ! (agg ! (and_then ! (lit ! tt) (and_then ! (get ! refl) (no_more !)))) refl
        (some_Good (lone Box.mir) w typed) $
        loose_in R Z LZ ghosts ! b o h a x $
        use1 𝓛 (‵ ((option.the_row Box).own_val (Some box) (alive_at 1 (of_list (w ∷ [])) ∷ [])))
        (Some-of 𝓛 Box box w) $
        use0 𝓛 (raw (fact 𝓤 (Taken d (Some box)))) (fact_i 𝓤 (Taken d (Some box)) (emp 𝓤) found) $
        nothing ! $ nothing ! $ fjoin ! $ nothing ! $ fjoin ! $ nothing ! $
        returns ! (look_at ! 0 refl) $ free_all ! refl $ keep ! (0 ∷ 1 ∷ 3 ∷ 2 ∷ []) $
        by ! (leaves 𝓛 loose_ended loose_stay (loose_clauses 𝓤) z (alive_at 1 (of_list (w ∷ []))) (Some box)
        (tt, (tt, tt)) (tt, (tt, tt)))))))

  pub loose_met : {M : Type 1} (𝓤 : Ura M) (𝓛 : Logic 𝓤) (𝓜 : Model 𝓤 𝓛.H) (𝓡 : Running 𝓤 𝓛.H 𝓜) (k : Callee)
      → Closed 𝓤 𝓛.H (tables 𝓤 𝓛.H 𝓜 𝓡 𝓡.env).C (tables 𝓤 𝓛.H 𝓜 𝓡 𝓡.env).Λ k loose_code
      → Meets 𝓛 loose_ended.signature ((tables 𝓤 𝓛.H 𝓜 𝓡 𝓡.env).C k) (closing 𝓛 loose_ended (loose_clauses 𝓤))
  loose_met 𝓤 𝓛 𝓜 𝓡 k unfolded =
      proved_at 𝓛 loose_ended loose_stay (loose_clauses 𝓤) 𝓜 𝓡 (
        Goes-blank 𝓛 0 (plain (λ _. the_row)) loose_ended.kept.0 (λ κs x f. tt),
        (Goes-blank 𝓛 0 (plain (λ _. heap.the_row)) loose_ended.kept.1.0 (λ κs x f. tt), tt),
      ) k loose_code unfolded (λ z are. walks 𝓤 𝓛 𝓜 𝓡 z (S.value z.0.3.0) refl)

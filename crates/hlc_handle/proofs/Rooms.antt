-- The machine value of a room: of a struct that has one field, a raw pointer, and owns something. Assumes `Logic`.
use Rattle.std.proofs.Common.{◌≡◌, List, [], ◌∷◌, ◌++◌, refl, subst, Option, Some, None, IsSome}
use mathlib.Core.Bool.{false≢true}
use seplogic.Ra.Ura.{Ura}
use mir.Val.{Val, vstruct, vcons, vnil, of_list}
use base.Fml.{Fml, feq, fex, fsep, ftrue}
use types.Logic.{Logic}
use types.Kit.{Item, Goal, Seq, Step, step, ‵, ◌$◌, drop, fsplit, fjoin, fpick, fpack, feq_i, feq_l}
use denote.{RattleType.Valss, RawPtr.Ptr, RawPtr.ptr_val, Builtin.RawPtr, Steps.nothing}

abbrev pub one : Val → Val
one v = vstruct (vcons v vnil)

pub some_is : {A : Type 0} (x : Option A) → IsSome x → (a : A) × (x ≡ Some a)
some_is (Some a) s = (a, refl)
some_is None s = absurd (false≢true s)

-- the values are those of the struct, with the pointer in it
abbrev pub is_one : Ptr → List Val → Valss (RawPtr ∷ []) → Fml
is_one at vs vss =
    fsep (feq (List Val) vs (vstruct (of_list (vss.0 ++ [])) ∷ []))
    (fsep (feq (List Val) vss.0 (ptr_val at ∷ [])) ftrue)

abbrev pub room_holds : Ptr → Fml → List Val → Fml
room_holds at owned vs = fsep (fex (Valss (RawPtr ∷ [])) (is_one at vs)) owned

module _ {M : Type 1} {𝓤 : Ura M} {𝓛 : Logic 𝓤} {K : Type 0} {Γ : List (Item 𝓤)} {G : Goal 𝓤 𝓛.H} where
  pub room_out : K → (at : Ptr) (owned : Fml) (vs : List Val)
      → (vs ≡ one (ptr_val at) ∷ [] → Seq K 𝓛 (‵ owned ∷ Γ) G) → Seq K 𝓛 (‵ (room_holds at owned vs) ∷ Γ) G
  room_out t at owned vs k =
      fsplit t $ fpick t (λ vss. fsplit t $ feq_l t (λ ev. fsplit t $ feq_l t (λ ep. drop t $
      k (subst (λ (ps : List Val). vs ≡ vstruct (of_list (ps ++ [])) ∷ []) ep ev))))

  pub room_in : K → (at : Ptr) (owned : Fml)
      → Step K 𝓛 (‵ (room_holds at owned (one (ptr_val at) ∷ [])) ∷ Γ) G (‵ owned ∷ Γ) G
  room_in t at owned = step (λ s. let p : Val = ptr_val at in
      nothing t $ feq_i t (List Val) (p ∷ []) (p ∷ []) refl $ fjoin t $
      feq_i t (List Val) (one p ∷ []) (one p ∷ []) refl $ fjoin t $
      fpack t (Valss (RawPtr ∷ [])) (is_one at (one p ∷ [])) (p ∷ [], tt) $ fjoin t $ s)

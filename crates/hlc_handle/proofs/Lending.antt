-- What a reader beside others lends, as an owner of an `Arc` does, without a count. Assumes `Logic`.
use Rattle.std.proofs.Common.{ℕ, [], ◌∷◌}
use seplogic.Ra.Ura.{Ura}
use base.{FractionLaws.Counts, Logic.ent, Logic.sep, Logic.wand, Logic.upd_i, Logic.id⊢, Logic.apply∗}
use base.Fml.{Lft, Share, Fml, ftrue, fsep, fseps, fwand, fupd, fdead, fbor, flft}
use contract.BorrowLft.{meet_⊑_left}
use ghost.Rules.{span, thinned}
use types.{Logic.Logic, Logic.sem, Logic.lfts, RcWeak.part, RcWeak.part_in}
use types.Kit.{‵, raw, ◌⊛◌, some as exists, later, ◌$◌, ◌∵◌, !, qed, by, move, keep, use1, use2, split, fsplit, fsplit3}
use types.Kit.{fjoin, fpick, pick, assume, suffices, await, updating, now, done}
use types.Tokens.{bor_open, obor_alter, bor_fracture, one_token}
use denote.{Moves.moves_from, RawPtr.Ptr, Steps.nothing, RattleType.RattleType, RattleType.RowLaws}
use denote.Sharing.{ShrLaws, beside, one, held}
use denote.SharingLaws.{contraction, beside_shr_laws, one_shr_laws, held_shr_laws}
use denote.Struct.Lending.{Lends, lent_at, lent_at_shr_laws}
use Rattle.hlc_handle.specs.Lent.{Loan, lent_shares}

module _ (t : Lft → Fml) (L : ShrLaws t) (a : ℕ) where
  abbrev Owned : Fml
  Owned = fsep (part 63 a) (t (a ∷ []))

  abbrev Seen : Lft → Fml
  Seen = beside (one (λ q. flft (a ∷ []) q)) (held (a ∷ []) t)

  module _ {M : Type 1} {𝓤 : Ura M} (𝓛 : Logic 𝓤) where
    open 𝓛 use {H, A}

    module _ (κ : Lft) where
      again : (e : Share) → Counts 63 e 1 → ent 𝓤 (sem 𝓛 (t (a ∷ [])))
          (sem 𝓛 (fwand (fsep (fdead κ) (fseps (flft (a ∷ []) e ∷ []))) (fupd Owned)))
      unfolding fseps
      again e c =
          qed 𝓛 (‵ (t (a ∷ [])) ∷ []) ∵
          assume ! (‵ (fsep (fdead κ) (fsep (flft (a ∷ []) e) ftrue))) $
          suffices ! (sem 𝓛 Owned) (upd_i 𝓤 (sem 𝓛 Owned)) $ fsplit3 ! $ move ! (1 ∷ []) $
          use1 𝓛 (‵ (part 63 a)) (part_in 63 𝓛 a e c) $ keep ! (0 ∷ 3 ∷ []) $ fjoin ! $ done !

      by_token : (q : Share)
          → ent 𝓤 (sep 𝓤 (A.bor κ Owned) (A.lft κ q)) (H.⇛ (sep 𝓤 (sem 𝓛 (Seen κ)) (A.lft κ q)))
      unfolding fseps
      by_token q =
          qed 𝓛 (‵ (fbor κ Owned) ∷ ‵ (flft κ q) ∷ []) ∵
          updating ! $ bor_open ! tt $ move ! (1 ∷ []) $ fsplit ! $ fpick ! (λ e. fpick ! (λ c.
          -- [a share of the token; what is shared; the open borrow]
          move ! (1 ∷ []) $
          use1 𝓛 (‵ (t (a ∷ [])) ⊛ ‵ (t (a ∷ []))) (contraction 𝓛 t L (a ∷ [])) $ split ! $
          use1 𝓛 (‵ (fwand (fsep (fdead κ) (fseps (flft (a ∷ []) e ∷ []))) (fupd Owned))) (again e c) $
          -- [the way back; what is shared; the share; the open borrow]
          nothing ! $ move ! (3 ∷ 0 ∷ []) $ fjoin ! $ move ! (3 ∷ 0 ∷ 1 ∷ []) $
          obor_alter ! tt (flft (a ∷ []) e ∷ []) $
          use1 𝓛 (‵ (fbor κ (flft (a ∷ []) e)) ⊛ ‵ ftrue) (id⊢ 𝓤 _) $ split ! $
          bor_fracture ! tt (λ r. flft (a ∷ []) r) e $ move ! (0 ∷ 3 ∷ []) $ fjoin ! $
          now ! $ keep ! (0 ∷ 2 ∷ []) $ done !))

    pub lends : (l : Lft) → Lends 𝓛 Owned Seen l
    lends l κ ts inc sp =
        qed 𝓛 (‵ (fbor κ Owned) ∷ raw (lfts 𝓛 ts) ∷ []) ∵
        updating ! $ move ! (1 ∷ []) $
        use1 𝓛 (exists (λ (q : Share). ‵ (flft (span ts) q) ⊛ raw (wand 𝓤 (A.lft (span ts) q) (lfts 𝓛 ts))))
        (one_token 𝓛 ts) $ pick ! (λ q. split ! $
        use1 𝓛 (‵ (flft κ (thinned κ q)) ⊛ raw (wand 𝓤 (A.lft κ (thinned κ q)) (A.lft (span ts) q)))
        (𝓛.lfts.lft-incl (span ts) κ q sp) $ split ! $ move ! (3 ∷ 0 ∷ []) $
        use2 𝓛 (later (‵ (Seen κ) ⊛ ‵ (flft κ (thinned κ q)))) (by_token κ (thinned κ q)) $ await ! tt $ split ! $
        move ! (1 ∷ 2 ∷ []) $
        use2 𝓛 (‵ (flft (span ts) q)) (apply∗ 𝓤 (A.lft κ (thinned κ q)) (A.lft (span ts) q)) $
        move ! (0 ∷ 2 ∷ []) $
        use2 𝓛 (raw (lfts 𝓛 ts)) (apply∗ 𝓤 (A.lft (span ts) q) (lfts 𝓛 ts)) $
        now ! $ move ! (1 ∷ 0 ∷ []) $ done !)

    -- what is shared for the lifetime of a reader is shared for that of a `&` to it
    pub sees : (κ : Lft) → ent 𝓤 (sem 𝓛 (Seen κ)) (sem 𝓛 (t κ))
    sees κ =
        qed 𝓛 (‵ (Seen κ) ∷ []) ∵
        fsplit ! $ by ! (moves_from 𝓛 t L κ (a ∷ []) (a ∷ []) (meet_⊑_left (a ∷ []) κ))

  pub seen_laws : ShrLaws Seen
  seen_laws =
      beside_shr_laws (one (λ q. flft (a ∷ []) q)) (held (a ∷ []) t) (one_shr_laws (λ q. flft (a ∷ []) q))
      (held_shr_laws (a ∷ []) t L)

pub shares_laws : (R : RattleType) → RowLaws R → (at : Ptr) (loan : Loan R) → ShrLaws (lent_shares R at loan)
shares_laws R L at loan = seen_laws (lent_at R at loan.1) (lent_at_shr_laws R L at loan.1) loan.0

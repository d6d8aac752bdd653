-- That C can keep its promise about readers: what a store owns can be lent to one reader, a reader can be made beside
-- another, and once all have returned, the store owns what it did. Assumes `Logic`.
use Rattle.std.proofs.Common.{ℕ, ◌+◌, ◌-◌, ◌^◌, ◌<◌, [], ◌∷◌, lit<}
use seplogic.Ra.Ura.{Ura}
use base.{Fraction.full_share, Logic.ent, Logic.sep, FractionLaws.Counts-all}
use base.Fml.{Lft, Incl, Incl-trans, Share, Fml, fsep, fex, flft, flent}
use contract.BorrowLft.{meet_⊑_left, meet_⊑_right}
use types.{Logic.Logic, Logic.sem, Tokens.lft_new, Tokens.lft_end, Tokens.bor_new, Tokens.lent_back}
use types.Kit.{‵, ◌⊛◌, later, await, ◌$◌, ◌∵◌, !, qed, use1, use2, move, keep, split, split3, join, fsplit, fjoin}
use types.Kit.{fpack, fpick, updating, now, done}
use types.RcWeak.{part, rest, part_in, cut, takes, gives, whole}
use denote.{RattleType.RattleType, Param.Laws.Laws, RawPtr.Ptr, RawPtr.lies_at, SharingLaws.contraction}
use denote.Struct.Lending.{lent_at, lent_at_shr_laws, Lends-lies}

module _ (R : RattleType) (L : Laws R) (at : Ptr) (value : R.Denot) where
  abbrev pub Owned : Fml
  Owned = lies_at R full_share at value

  -- what a reader owns, at its lifetime
  abbrev pub Reads : ℕ → Fml
  Reads a = fsep (part 63 a) (lent_at R at value (a ∷ []))

  -- what is left while there are this many readers
  abbrev pub Lent : ℕ → ℕ → Fml
  Lent a n = fsep (rest 63 a n) (flent (a ∷ []) Owned)

  module _ {M : Type 1} {𝓤 : Ura M} (𝓛 : Logic 𝓤) where
    open 𝓛 use {H, A}

    pub lend : (μ : Lft) (q : Share) → Incl μ R.lives → ent 𝓤 (sep 𝓤 (sem 𝓛 Owned) (A.lft μ q))
        (H.⇛ (sep 𝓤 (sem 𝓛 (fex ℕ (λ a. fsep (Reads a) (Lent a 1)))) (A.lft μ q)))
    lend μ q inc =
        qed 𝓛 (‵ Owned ∷ ‵ (flft μ q) ∷ []) ∵
        updating ! $ lft_new ! tt (λ a.
        use1 𝓛 (‵ (rest 63 a 1) ⊛ ‵ (part 63 a)) (cut 63 𝓛 a 0 full_share (lit< tt) (Counts-all 63)) $ split ! $
        move ! (2 ∷ []) $ bor_new ! tt (a ∷ []) $
        -- [the borrow; the way back; the rest; the part; the token]
        move ! (3 ∷ []) $ fpick ! (λ s. fpick ! (λ one.
        move ! (0 ∷ 4 ∷ []) $ join ! $ move ! (1 ∷ 0 ∷ []) $
        use2 𝓛 (later (‵ (lent_at R at value (a ∷ [])) ⊛ ‵ (flft (a ∷ []) s) ⊛ ‵ (flft μ q)))
        (Lends-lies 𝓛 R R.lives at value (L.shares 𝓛 value) (a ∷ []) ((a ∷ [], s) ∷ (μ, q) ∷ [])
        (Incl-trans (meet_⊑_right (a ∷ []) μ) inc) (meet_⊑_left (a ∷ []) μ)) $ await ! tt $ split3 ! $
        move ! (1 ∷ []) $ use1 𝓛 (‵ (part 63 a)) (part_in 63 𝓛 a s one) $ move ! (0 ∷ 1 ∷ []) $ fjoin ! $
        move ! (3 ∷ 2 ∷ []) $ fjoin ! $ move ! (1 ∷ 0 ∷ []) $ fjoin ! $ fpack ! ℕ (λ c. fsep (Reads c) (Lent c 1)) a $
        now ! $ done !)))

    pub another : (a n : ℕ) → n + 1 < 2 ^ 63 → ent 𝓤 (sep 𝓤 (sem 𝓛 (Reads a)) (sem 𝓛 (Lent a n)))
        (sep 𝓤 (sem 𝓛 (Reads a)) (sep 𝓤 (sem 𝓛 (Reads a)) (sem 𝓛 (Lent a (n + 1)))))
    another a n room =
        qed 𝓛 (‵ (Reads a) ∷ ‵ (Lent a n) ∷ []) ∵
        fsplit ! $ move ! (1 ∷ []) $
        use1 𝓛 (‵ (lent_at R at value (a ∷ [])) ⊛ ‵ (lent_at R at value (a ∷ [])))
        (contraction 𝓛 (lent_at R at value) (lent_at_shr_laws R L.shr_laws at value) (a ∷ [])) $ split ! $
        -- [what is shared, twice; the part; what is left]
        move ! (3 ∷ []) $ fsplit ! $
        use1 𝓛 (‵ (rest 63 a (n + 1)) ⊛ ‵ (part 63 a)) (takes 63 𝓛 a n room) $ split ! $
        move ! (0 ∷ 2 ∷ []) $ fjoin ! $ move ! (1 ∷ 2 ∷ []) $ fjoin ! $ move ! (3 ∷ 2 ∷ []) $ fjoin ! $
        move ! (0 ∷ 1 ∷ 2 ∷ []) $ done !

    pub back : (a n : ℕ) → 1 < n
        → ent 𝓤 (sep 𝓤 (sem 𝓛 (Reads a)) (sem 𝓛 (Lent a n))) (sem 𝓛 (Lent a (n - 1)))
    back a n many =
        qed 𝓛 (‵ (Reads a) ∷ ‵ (Lent a n) ∷ []) ∵
        fsplit ! $ move ! (2 ∷ []) $ fsplit ! $ move ! (0 ∷ 2 ∷ []) $
        use2 𝓛 (‵ (rest 63 a (n - 1))) (gives 63 𝓛 a n many) $ move ! (0 ∷ 1 ∷ []) $ fjoin ! $
        keep ! (0 ∷ []) $ done !

    pub last : (a : ℕ) → ent 𝓤 (sep 𝓤 (sem 𝓛 (Reads a)) (sem 𝓛 (Lent a 1))) (H.⇛ (sem 𝓛 Owned))
    last a =
        qed 𝓛 (‵ (Reads a) ∷ ‵ (Lent a 1) ∷ []) ∵
        updating ! $ fsplit ! $ move ! (2 ∷ []) $ fsplit ! $ move ! (0 ∷ 2 ∷ []) $
        use2 𝓛 (‵ (flft (a ∷ []) full_share)) (whole 63 𝓛 a) $ lft_end ! tt $ move ! (0 ∷ 1 ∷ []) $ lent_back ! tt $
        now ! $ keep ! (0 ∷ []) $ done !

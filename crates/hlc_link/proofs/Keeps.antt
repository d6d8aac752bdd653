-- Each step preserves the rule of a link: a step changes what one pass knows, and adds the same parcel to the channel
-- or removes it. So the one equation of the rule, that all parcels put are those taken and then those in the channel,
-- stays true; and no step makes a second sender or receiver.
use Rattle.std.proofs.Common.{◌≡◌, ◌≢◌, ℕ, zero, suc, Bool, true, false, true≢false, List, [], ◌∷◌, ◌++◌, map, length}
use Rattle.std.proofs.Common.{set, sym, refl, ap, ◌∙◌, subst, ⊎_elim, append_assoc, append-nil}
use Rattle.std.proofs.lemmas.List.{map-append}
use mathlib.Core.Option.{some, some-ne-none}
use lib.ListN.{get_elem?}
use Rattle.crossbeam_channel.specs.Fifo.{Pushes, Pops, Forks, Merges, Learns}
use Rattle.atomic_table.proofs.Lists.{at_set, at_snoc, set_again}
use Rattle.hlc_node.specs.declared.item.Item.{Item}
use Rattle.hlc_link.specs.declared.rule.{Parcel.Parcel, Hand.Hand}
use Rattle.hlc_link.proofs.Streams.{as_stream, by_stream}
use Rattle.hlc_link.specs.Link.{stream, IsSender, IsReceiver, IsInOrder, both, sender, receiver, sender_of, receiver_of}
use Rattle.hlc_link.specs.Link.{nobody, joined, Carries, after_put, after_take}
use Rattle.hlc_link.specs.declared.rule.Parcel.TheVariants as parcel

off : false ≡ true → ⊥
off e = true≢false (sym e)

-- a stream without its end, and one more parcel
item_more : (xs : List Item) (x : Item) (ended : Bool) → ended ≡ false
    → stream (xs ++ x ∷ []) ended ≡ stream xs ended ++ parcel.Item x ∷ []
item_more xs x true e = absurd (true≢false e)
item_more xs x false e =
    append-nil (map parcel.Item (xs ++ x ∷ []))
    ∙ map-append parcel.Item xs (x ∷ [])
    ∙ ap (λ (l : List Parcel). l ++ parcel.Item x ∷ []) (sym (append-nil (map parcel.Item xs)))

end_more : (xs : List Item) (ended : Bool) → ended ≡ false → stream xs true ≡ stream xs ended ++ parcel.End ∷ []
end_more xs true e = absurd (true≢false e)
end_more xs false e = ap (λ (l : List Parcel). l ++ parcel.End ∷ []) (sym (append-nil (map parcel.Item xs)))

put_more : (v : Hand) (x : Parcel) → v.end_put ≡ false
    → stream (after_put v x).put (after_put v x).end_put ≡ stream v.put v.end_put ++ x ∷ []
put_more v (parcel.Item i) e = item_more v.put i v.end_put e
put_more v parcel.End e = end_more v.put v.end_put e

take_more : (v : Hand) (x : Parcel) → v.end_taken ≡ false
    → stream (after_take v x).taken (after_take v x).end_taken ≡ stream v.taken v.end_taken ++ x ∷ []
take_more v (parcel.Item i) e = item_more v.taken i v.end_taken e
take_more v parcel.End e = end_more v.taken v.end_taken e

-- whether a pass may put, or take, and the parcels that it knows to be put, or taken
abbrev may_put : Hand → Bool
may_put v = v.puts

abbrev may_take : Hand → Bool
may_take v = v.takes

abbrev put_by : Hand → List Parcel
put_by v = stream v.put v.end_put

abbrev taken_by : Hand → List Parcel
taken_by v = stream v.taken v.end_taken

-- the seat s may do this, and has the view v
abbrev May : (Hand → Bool) → List Hand → ℕ → Hand → Type 0
May can views s v = (get_elem? views s ≡ some v) × (can v ≡ true)

put_same : (v : Hand) (x : Parcel)
    → (may_put (after_put v x) ≡ may_put v) × (may_take (after_put v x) ≡ may_take v)
    × (taken_by (after_put v x) ≡ taken_by v)
put_same v (parcel.Item i) = (refl, refl, refl)
put_same v parcel.End = (refl, refl, refl)

take_same : (v : Hand) (x : Parcel)
    → (may_put (after_take v x) ≡ may_put v) × (may_take (after_take v x) ≡ may_take v)
    × (put_by (after_take v x) ≡ put_by v)
take_same v (parcel.Item i) = (refl, refl, refl)
take_same v parcel.End = (refl, refl, refl)

-- after one view changed, a seat that may do this could do it before; if the change did not touch what that view knows,
-- the seat knew the same
kept : (can : Hand → Bool) (known : Hand → List Parcel) (views : List Hand) (seat : ℕ) (v w : Hand) (s : ℕ) (a : Hand)
    → get_elem? views seat ≡ some v → can w ≡ can v → known w ≡ known v
    → May can (set views seat w) s a
    → (b : Hand) × May can views s b × (known a ≡ known b)
kept can known views seat v w s a at may knows is =
    ⊎_elim
    (λ (t : (s ≡ seat) × (w ≡ a)). (
      v,
      (subst (λ (j : ℕ). get_elem? views j ≡ some v) (sym t.0) at, sym may ∙ ap can t.1 ∙ is.1),
      ap known (sym t.1) ∙ knows,
    ))
    (λ (t : (s ≢ seat) × (get_elem? views s ≡ some a)). (a, (t.1, is.1), refl))
    (at_set views seat s w a is.0)

-- so if there was at most one, there still is
one : (can : Hand → Bool) (views : List Hand) (seat : ℕ) (v w : Hand) → get_elem? views seat ≡ some v → can w ≡ can v
    → ((s t : ℕ) (a b : Hand) → May can views s a → May can views t b → s ≡ t)
    → (s t : ℕ) (a b : Hand) → May can (set views seat w) s a → May can (set views seat w) t b → s ≡ t
one can views seat v w at may was s t a b p q =
    let p' = kept can (λ u. []) views seat v w s a at may refl p in
    let q' = kept can (λ u. []) views seat v w t b at may refl q in
    was s t p'.0 q'.0 p'.1 q'.1

-- the view that was set
set_is : (views : List Hand) (seat : ℕ) (w : Hand) (s : ℕ) (a : Hand) → s ≡ seat
    → get_elem? (set views seat w) s ≡ some a → w ≡ a
set_is views seat w s a here is =
    ⊎_elim
    (λ (t : (s ≡ seat) × (w ≡ a)). t.1)
    (λ (t : (s ≢ seat) × (get_elem? views s ≡ some a)). absurd (t.0 here))
    (at_set views seat s w a is)

-- a step of the sender
pub puts : (n seat : ℕ) (v : Hand) (x : Parcel) → v.puts ≡ true → v.end_put ≡ false
    → Pushes IsInOrder n seat v x (λ w. w ≡ after_put v x)
puts n seat v x may going items views room h at =
    let w : Hand = after_put v x in
    let same = put_same v x in (
      w,
      (
        one may_put views seat v w at same.0 h.0,
        one may_take views seat v w at same.1 h.1,
        (λ s r a b p q.
            let p' = kept may_put taken_by views seat v w s a at same.0 same.2 p in
            let here : s ≡ seat = h.0 s seat p'.0 v p'.1 (at, may) in
            let is : w ≡ a = set_is views seat w s a here p.0 in
            let q' = kept may_take taken_by views seat v w r b at same.1 same.2 q in
            let taken : List Parcel = taken_by q'.0 in
            let old : put_by v ≡ taken ++ items =
            as_stream items v q'.0 (h.2 seat r v q'.0 (at, may) q'.1) in
            by_stream (items ++ x ∷ []) a b
            (ap put_by (sym is)
            ∙ put_more v x going
            ∙ ap (λ (l : List Parcel). l ++ x ∷ []) old
            ∙ append_assoc taken items (x ∷ [])
            ∙ ap (λ (l : List Parcel). l ++ (items ++ x ∷ [])) (sym q'.2))),
      ),
      refl,
    )

-- a step of the receiver
pub takes : (seat : ℕ) (v : Hand) → v.takes ≡ true → v.end_taken ≡ false
    → Pops IsInOrder seat v (λ x w. w ≡ after_take v x)
takes seat v may going x items views h at =
    let w : Hand = after_take v x in
    let same = take_same v x in (
      w,
      (
        one may_put views seat v w at same.0 h.0,
        one may_take views seat v w at same.1 h.1,
        (λ s r a b p q.
            let q' = kept may_take put_by views seat v w r b at same.1 same.2 q in
            let here : r ≡ seat = h.1 r seat q'.0 v q'.1 (at, may) in
            let is : w ≡ b = set_is views seat w r b here q.0 in
            let p' = kept may_put put_by views seat v w s a at same.0 same.2 p in
            let put : List Parcel = put_by p'.0 in
            let taken : List Parcel = taken_by v in
            let old : put ≡ taken ++ (x ∷ items) = as_stream (x ∷ items) p'.0 v (h.2 s seat p'.0 v p'.1 (at, may)) in
            by_stream items a b
            (p'.2
            ∙ old
            ∙ sym (append_assoc taken (x ∷ []) items)
            ∙ ap (λ (l : List Parcel). l ++ items) (sym (take_more v x going))
            ∙ ap (λ (u : Hand). taken_by u ++ items) is)),
      ),
      refl,
    )

-- an element that only the longer list has is at its end
at_end : (l : List Hand) (a b : Hand) (j : ℕ) → get_elem? l j ≢ some b
    → get_elem? (l ++ a ∷ []) j ≡ some b → j ≡ length l
at_end [] a b zero n e = refl
at_end [] a b (suc j) n e = absurd (some-ne-none b (sym e))
at_end (x ∷ xs) a b zero n e = absurd (n e)
at_end (x ∷ xs) a b (suc j) n e = ap suc (at_end xs a b j n e)

-- the first pass is split: one part is the sender, the other the receiver
pub cuts : (seat : ℕ) (v : Hand) → v.puts ≡ true → v.takes ≡ true → Forks IsInOrder seat v (sender_of v) (receiver_of v)
cuts seat v may can items views h at =
    let l : Hand = sender_of v in
    let r : Hand = receiver_of v in
    let vs : List Hand = set views seat l in
    let old_sender : (s : ℕ) (a : Hand) → IsSender (vs ++ r ∷ []) s a → IsSender vs s a =
    λ s a p. ⊎_elim
    (λ (t : get_elem? vs s ≡ some a). (t, p.1))
    (λ (t : r ≡ a). absurd (off (ap may_put t ∙ p.1)))
    (at_snoc vs r a s p.0) in
    let no_receiver : (j : ℕ) (a : Hand) → get_elem? vs j ≡ some a → a.takes ≡ true → ⊥ =
    λ j a e c. ⊎_elim
    (λ (t : (j ≡ seat) × (l ≡ a)). off (ap may_take t.1 ∙ c))
    (λ (t : (j ≢ seat) × (get_elem? views j ≡ some a)). t.0 (h.1 j seat a v (t.1, c) (at, can)))
    (at_set views seat j l a e) in
    let receiver_is : (j : ℕ) (a : Hand) → IsReceiver (vs ++ r ∷ []) j a → r ≡ a =
    λ j a p. ⊎_elim (λ (t : get_elem? vs j ≡ some a). absurd (no_receiver j a t p.1)) (λ (t : r ≡ a). t)
    (at_snoc vs r a j p.0) in
    let receiver_at : (j : ℕ) (a : Hand) → IsReceiver (vs ++ r ∷ []) j a → j ≡ length vs =
    λ j a p. at_end vs r a j (λ e. no_receiver j a e p.1) p.0 in (
      (λ s t a b p q. one may_put views seat v l at refl h.0 s t a b (old_sender s a p) (old_sender t b q)),
      (λ j t a b p q. receiver_at j a p ∙ sym (receiver_at t b q)),
      (λ s j a b p q.
          let p' = kept may_put put_by views seat v l s a at refl refl (old_sender s a p) in
          by_stream items a b
          (p'.2
          ∙ as_stream items p'.0 v (h.2 s seat p'.0 v p'.1 (at, can))
          ∙ ap (λ (u : Hand). taken_by u ++ items) (receiver_is j b q))),
    )

-- a pass that may do nothing is split off
pub spares : (seat : ℕ) (v : Hand) → Forks IsInOrder seat v v nobody
spares seat v items views h at =
    let vs : List Hand = set views seat v in
    let same : vs ≡ views = set_again views seat v at in
    let old : (can : Hand → Bool) → can nobody ≡ false → (s : ℕ) (a : Hand) → May can (vs ++ nobody ∷ []) s a
    → May can views s a =
    λ can none s a p. ⊎_elim
    (λ (t : get_elem? vs s ≡ some a). (subst (λ (l : List Hand). get_elem? l s ≡ some a) same t, p.1))
    (λ (t : nobody ≡ a). absurd (off (sym none ∙ ap can t ∙ p.1)))
    (at_snoc vs nobody a s p.0) in (
      (λ s t a b p q. h.0 s t a b (old may_put refl s a p) (old may_put refl t b q)),
      (λ s t a b p q. h.1 s t a b (old may_take refl s a p) (old may_take refl t b q)),
      (λ s r a b p q. h.2 s r a b (old may_put refl s a p) (old may_take refl r b q)),
    )

-- the sender's pass absorbs the receiver's: the one pass is then both, and the other may do nothing
pub merges : (seat : ℕ) (v : Hand) (other : ℕ) (w : Hand) → v.puts ≡ true → w.takes ≡ true
    → Merges IsInOrder seat v other w (joined v w) nobody
merges seat v other w may can items views h at apart at' =
    let b : Hand = joined v w in
    let vs : List Hand = set views seat b in
    let was : get_elem? views other ≡ some w =
    ⊎_elim
    (λ (t : (other ≡ seat) × (b ≡ w)). absurd (apart t.0))
    (λ (t : (other ≢ seat) × (get_elem? views other ≡ some w)). t.1)
    (at_set views seat other b w at') in
    let left : (able : Hand → Bool) → able nobody ≡ false → (s : ℕ) (a : Hand) → May able (set vs other nobody) s a
    → (s ≢ other) × May able vs s a =
    λ able none s a p. ⊎_elim
    (λ (t : (s ≡ other) × (nobody ≡ a)). absurd (off (sym none ∙ ap able t.1 ∙ p.1)))
    (λ (t : (s ≢ other) × (get_elem? vs s ≡ some a)). (t.0, (t.1, p.1)))
    (at_set vs other s nobody a p.0) in
    let here : (r : ℕ) (a : Hand) → IsReceiver (set vs other nobody) r a → (r ≡ seat) × (b ≡ a) =
    λ r a p. let l = left may_take refl r a p in ⊎_elim
    (λ (t : (r ≡ seat) × (b ≡ a)). t)
    (λ (t : (r ≢ seat) × (get_elem? views r ≡ some a)). absurd (l.0 (h.1 r other a w (t.1, p.1) (was, can))))
    (at_set views seat r b a l.1.0) in (
      (λ s t x y p q. one may_put views seat v b at refl h.0 s t x y (left may_put refl s x p).1
          (left may_put refl t y q).1),
      (λ r t x y p q. (here r x p).0 ∙ sym (here t y q).0),
      (λ s r x y p q.
          let p' = kept may_put put_by views seat v b s x at refl refl (left may_put refl s x p).1 in
          by_stream items x y
          (p'.2
          ∙ as_stream items p'.0 w (h.2 s other p'.0 w p'.1 (was, can))
          ∙ ap (λ (u : Hand). taken_by u ++ items) (here r y q).1)),
    )

-- a pass that is both knows what the link carries
pub learns : (seat : ℕ) (v : Hand) → v.puts ≡ true → v.takes ≡ true
    → Learns IsInOrder seat v (λ items. Carries items v v)
learns seat v may can items views h at = h.2 seat seat v v (at, may) (at, can)

-- the steps, at a known view
pub puts_as : (n seat : ℕ) (v : Hand) (x : Parcel) (items : List Item) → v ≡ sender items false
    → Pushes IsInOrder n seat v x (λ w. w ≡ after_put v x)
puts_as n seat v x items is = puts n seat v x (ap may_put is) (ap (λ (u : Hand). u.end_put) is)

pub takes_as : (seat : ℕ) (v : Hand) (items : List Item) → v ≡ receiver items false
    → Pops IsInOrder seat v (λ x w. w ≡ after_take v x)
takes_as seat v items is = takes seat v (ap may_take is) (ap (λ (u : Hand). u.end_taken) is)

pub cuts_as : (seat : ℕ) (v : Hand) → v ≡ both → Forks IsInOrder seat v (sender_of v) (receiver_of v)
cuts_as seat v is = cuts seat v (ap may_put is) (ap may_take is)

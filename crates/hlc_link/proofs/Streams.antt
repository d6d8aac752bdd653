-- The rule of a link as one equation: the parcels put, the end last, are those taken and then those in the channel. The
-- equation and the rule are equivalent, since the items of a stream are those that it was made of, and its end comes
-- last.
use Rattle.std.proofs.Common.{◌≡◌, ℕ, Bool, true, false, true≢false, List, [], ◌∷◌, ◌++◌, sym, refl, ap, ◌∙◌}
use Rattle.std.proofs.Common.{append-nil}
use Rattle.hlc_node.specs.declared.item.Item.{Item}
use Rattle.hlc_link.specs.declared.rule.{Parcel.Parcel, Hand.Hand}
use Rattle.hlc_link.specs.Link.{stream, items_in, end_between, IsSender, IsReceiver, IsInOrder, Carries}
use Rattle.hlc_link.specs.declared.rule.Parcel.TheVariants as parcel

-- the items of a stream are those that it was made of
items_of_stream : (xs : List Item) (e : Bool) → items_in (stream xs e) ≡ xs
items_of_stream [] true = refl
items_of_stream [] false = refl
items_of_stream (x ∷ xs) e = ap (λ (l : List Item). x ∷ l) (items_of_stream xs e)

-- after the end was taken, nothing is left
ended : (taken put : List Item) (e : Bool) (in_transit : List Parcel) → stream put e ≡ stream taken true ++ in_transit
    → (put ≡ taken) × (e ≡ true) × (in_transit ≡ [])
ended [] [] true in_transit is = (refl, refl, sym (cc))
ended [] [] false in_transit is = absurd (cc)
ended [] (p ∷ ps) e in_transit is = absurd (cc)
ended (t ∷ ts) [] true in_transit is = absurd (cc)
ended (t ∷ ts) [] false in_transit is = absurd (cc)
ended (t ∷ ts) (p ∷ ps) e in_transit is =
    let rest = ended ts ps e in_transit (cc) in
    let first : p ≡ t = cc in
    ((λ i. first i ∷ rest.0 i), rest.1, rest.2)

-- before it was, the channel contains the items that are left, and the end if it was put
going : (taken put : List Item) (e : Bool) (in_transit : List Parcel) → stream put e ≡ stream taken false ++ in_transit
    → (put ≡ taken ++ items_in in_transit) × (in_transit ≡ stream (items_in in_transit) e)
going [] put e in_transit is = (
  sym (items_of_stream put e) ∙ ap items_in is,
  sym is ∙ ap (λ l. stream l e) (sym (items_of_stream put e)) ∙ ap (λ l. stream (items_in l) e) is,
)
going (t ∷ ts) [] true in_transit is = absurd (cc)
going (t ∷ ts) [] false in_transit is = absurd (cc)
going (t ∷ ts) (p ∷ ps) e in_transit is =
    let rest = going ts ps e in_transit (cc) in
    let first : p ≡ t = cc in
    ((λ i. first i ∷ rest.0 i), rest.1)

after_end : (in_transit : List Parcel) (v w : Hand) → w.end_taken ≡ true
    → stream v.put v.end_put ≡ stream w.taken true ++ in_transit
    → Carries in_transit v w
after_end in_transit v w e is =
    let all = ended w.taken v.put v.end_put in_transit is in
    record {
      items = all.0 ∙ sym (append-nil w.taken) ∙ ap (λ l. w.taken ++ items_in l) (sym all.2);
      end_last = rw (e, all.2) refl;
      all_taken = λ _. (all.1, all.2);
    }

before_end : (in_transit : List Parcel) (v w : Hand) → w.end_taken ≡ false
    → stream v.put v.end_put ≡ stream w.taken false ++ in_transit
    → Carries in_transit v w
before_end in_transit v w e is =
    let rest = going w.taken v.put v.end_put in_transit is in
    record {
      items = rest.0;
      end_last = rest.1 ∙ ap (λ b. stream (items_in in_transit) (end_between v.end_put b)) (sym e);
      all_taken = λ c. absurd (true≢false (sym c ∙ e));
    }

by_end : (in_transit : List Parcel) (v w : Hand) (e : Bool) → w.end_taken ≡ e
    → stream v.put v.end_put ≡ stream w.taken e ++ in_transit
    → Carries in_transit v w
by_end in_transit v w true e is = after_end in_transit v w e is
by_end in_transit v w false e is = before_end in_transit v w e is

-- a stream of two lists is that of the first without an end, and then that of the second
stream_split : (xs ys : List Item) (e : Bool) → stream (xs ++ ys) e ≡ stream xs false ++ stream ys e
stream_split [] ys e = refl
stream_split (x ∷ xs) ys e = ap (λ (l : List Parcel). parcel.Item x ∷ l) (stream_split xs ys e)

to_stream : (in_transit : List Parcel) (v w : Hand) (e : Bool) → w.end_taken ≡ e → Carries in_transit v w
    → stream v.put v.end_put ≡ stream w.taken e ++ in_transit
to_stream in_transit v w true is c =
    let all = c.all_taken is in
    (λ i. stream (c.items i) (all.0 i))
    ∙ ap (λ (l : List Parcel). stream (w.taken ++ items_in l) true) all.1
    ∙ ap (λ (l : List Item). stream l true) (append-nil w.taken)
    ∙ sym (append-nil (stream w.taken true))
    ∙ ap (λ (l : List Parcel). stream w.taken true ++ l) (sym all.1)
to_stream in_transit v w false is c =
    ap (λ (l : List Item). stream l v.end_put) c.items
    ∙ stream_split w.taken (items_in in_transit) v.end_put
    ∙ ap (λ (b : Bool). stream w.taken false ++ stream (items_in in_transit) (end_between v.end_put b)) (sym is)
    ∙ ap (λ (l : List Parcel). stream w.taken false ++ l) (sym c.end_last)

-- the rule as one equation
pub as_stream : (in_transit : List Parcel) (v w : Hand) → Carries in_transit v w
    → stream v.put v.end_put ≡ stream w.taken w.end_taken ++ in_transit
as_stream in_transit v w c = to_stream in_transit v w w.end_taken refl c

-- and back
pub by_stream : (in_transit : List Parcel) (v w : Hand) → stream v.put v.end_put
    ≡ stream w.taken w.end_taken ++ in_transit
    → Carries in_transit v w
by_stream in_transit v w is = by_end in_transit v w w.end_taken refl is

-- the rule implies it for each sender and each receiver
pub carries : (in_transit : List Parcel) (views : List Hand) (s r : ℕ) (v w : Hand) → IsInOrder in_transit views
    → IsSender views s v
    → IsReceiver views r w → Carries in_transit v w
carries in_transit views s r v w rule p q = rule.2 s r v w p q

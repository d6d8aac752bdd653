-- The entries of leaves, one leaf after another: one more entry in a leaf, and a leaf split into two.
use Rattle.std.proofs.Common.{◌≡◌, ◌≤◌, ◌<◌, ◌+◌, ◌-◌, ◌++◌, ◌∷◌, ◌∙◌, ℕ, zero, suc, List, [], get_or, set, length}
use Rattle.std.proofs.Common.{drop-set-lt, length-take, take-append-drop, length-append, length-drop, arith, ap, ap₂}
use Rattle.std.proofs.Common.{sym, take, drop, append_assoc, insert}
use Rattle.std.proofs.lemmas.List.{Concat.flat_map-append, set_split, take_more_set, get_or_at, set_at, drop_more}
use Rattle.std.proofs.lemmas.List.{take-append-le, drop-append-le}
use Rattle.hlc_table_index.specs.Entries.{entries_in, entries_with}

-- an entry inserted into the first of two lists, or into the second
pub insert_front : {X : Type 0} (xs ys : List X) (i : ℕ) (e : X) → i ≤ length xs → insert xs i e ++ ys ≡ insert (xs ++
    ys) i e
insert_front xs ys i e le =
    append_assoc (take i xs) (e ∷ drop i xs) ys
    ∙ ap₂ (λ us vs. us ++ e ∷ vs) (sym (take-append-le i xs ys le)) (sym (drop-append-le i xs ys le))

pub insert_back : {X : Type 0} (xs ys : List X) (n j : ℕ) (e : X) → n ≡ length xs + j → xs ++ insert ys j e ≡ insert (xs
    ++ ys) n e
insert_back [] ys n j e is = ap (λ m. insert ys m e) (let f : j ≡ n = omega (arith, is) in f)
insert_back (x ∷ xs) ys zero j e is = absurd (omega (arith, is))
insert_back (x ∷ xs) ys (suc n) j e is = ap (λ zs. x ∷ zs) (insert_back xs ys n j e (omega (arith, is)))

module _ {V : Type 0} where
  joined : (front : List (List (List ℕ × V))) (x : List (List ℕ × V)) (back : List (List (List ℕ × V)))
      → entries_in (front ++ x ∷ back) ≡ entries_in front ++ x ++ entries_in back
  joined front x back =
      flat_map-append (λ (leaf : List (List ℕ × V)). leaf) front (x ∷ back)
      ∙ sym (append_assoc (entries_in front) x (entries_in back))

  joined_two : (front : List (List (List ℕ × V))) (x y : List (List ℕ × V)) (back : List (List (List ℕ × V)))
      → entries_in (front ++ x ∷ y ∷ back) ≡ entries_in front ++ (x ++ y) ++ entries_in back
  joined_two front x y back =
      flat_map-append (λ (leaf : List (List ℕ × V)). leaf) front (x ∷ y ∷ back) ∙ simp append_assoc

  pub joined_set : (ls : List (List (List ℕ × V))) (at : ℕ) (x : List (List ℕ × V)) → at < length ls
      → entries_in (set ls at x) ≡ entries_in (take at ls) ++ x ++ entries_in (drop (at + 1) ls)
  joined_set ls at x inside =
      ap entries_in (set_split ls at x inside) ∙ joined (take at ls) x (drop (suc at) ls)
      ∙ ap (λ n. entries_in (take at ls) ++ x ++ entries_in (drop n ls)) (let e : suc at ≡ at + 1 = omega arith in e)

  pub joined_all : (ls : List (List (List ℕ × V))) (at : ℕ) → at < length ls
      → entries_in ls ≡ entries_in (take at ls) ++ get_or ls at [] ++ entries_in (drop (at + 1) ls)
  joined_all ls at inside =
      ap entries_in (sym (take-append-drop at ls) ∙ ap (λ zs. take at ls ++ zs) (drop_more ls at [] inside))
      ∙ joined (take at ls) (get_or ls at []) (drop (at + 1) ls)

  -- a leaf split into two
  module _ (ls now : List (List (List ℕ × V))) (at cut : ℕ) (inside : at < length ls)
      (is : now ≡ insert (set ls at (take cut (get_or ls at []))) (at + 1) (drop cut (get_or ls at []))) where
    two : now ≡ take at ls ++ take cut (get_or ls at []) ∷ drop cut (get_or ls at []) ∷ drop (at + 1) ls
    two =
        is ∙ ap₂ (λ us vs. us ++ drop cut (get_or ls at []) ∷ vs)
        (take_more_set ls at (take cut (get_or ls at [])) inside)
        (drop-set-lt (at + 1) ls at (take cut (get_or ls at [])) (omega arith))
        ∙ append_assoc (take at ls) (take cut (get_or ls at []) ∷ []) (drop cut (get_or ls at []) ∷ drop (at + 1) ls)

    before : length (take at ls) ≡ at
    before = let e = length-take at ls in omega (arith, e, inside)

    pub many : length now ≡ length ls + 1
    many =
        let e = length-take at ls in
        let f = length-drop (at + 1) ls in
        ap length two ∙ length-append (take at ls) (take cut (get_or ls at []) ∷ drop cut (get_or ls at []) ∷ drop (at +
        1) ls) ∙ omega (arith, e, f, inside)

    pub front_is : get_or now at [] ≡ take cut (get_or ls at [])
    front_is = ap (λ zs. get_or zs at []) two
        ∙ get_or_at (take at ls) (take cut (get_or ls at [])) (drop cut (get_or ls at []) ∷ drop (at + 1) ls) [] at
        before

    two_after : now ≡ (take at ls ++ take cut (get_or ls at []) ∷ []) ++ drop cut (get_or ls at []) ∷ drop (at + 1) ls
    two_after = two ∙ sym (append_assoc (take at ls) (take cut (get_or ls at []) ∷ []) (drop cut (get_or ls at []) ∷
        drop (at + 1) ls))

    before_after : length (take at ls ++ take cut (get_or ls at []) ∷ []) ≡ at + 1
    before_after = let e = before in let f = length-append (take at ls) (take cut (get_or ls at []) ∷ []) in omega
        (arith, e, f)

    pub back_is : get_or now (at + 1) [] ≡ drop cut (get_or ls at [])
    back_is = ap (λ zs. get_or zs (at + 1) []) two_after
        ∙ get_or_at (take at ls ++ take cut (get_or ls at []) ∷ []) (drop cut (get_or ls at [])) (drop (at + 1) ls) []
        (at + 1)
        before_after

    whole : take cut (get_or ls at []) ++ drop cut (get_or ls at []) ≡ get_or ls at []
    whole = take-append-drop cut (get_or ls at [])

    pub cut_same : entries_in now ≡ entries_in ls
    cut_same =
        ap entries_in two ∙ joined_two (take at ls) (take cut (get_or ls at [])) (drop cut (get_or ls at [])) (drop (at
        + 1) ls) ∙ ap (λ m. entries_in (take at ls) ++ m ++ entries_in (drop (at + 1) ls)) whole
        ∙ sym (joined_all ls at inside)

    pub cut_front : (slot : ℕ) (e : List ℕ × V) → slot ≤ cut → slot ≤ length (get_or ls at [])
        → entries_in (set now at (insert (get_or now at []) slot e)) ≡ entries_with ls at slot e
    cut_front slot e le few =
        let a : List (List ℕ × V) = take cut (get_or ls at []) in
        let b : List (List ℕ × V) = drop cut (get_or ls at []) in
        let z : List (List ℕ × V) = insert (get_or now at []) slot e in
        ap (λ zs. entries_in (set zs at z)) two ∙ ap entries_in (set_at (take at ls) a (b ∷ drop (at + 1) ls) z at
        before) ∙ joined_two (take at ls) z b (drop (at + 1) ls)
        ∙ ap (λ m. entries_in (take at ls) ++ m ++ entries_in (drop (at + 1) ls))
        (ap (λ l. insert l slot e ++ b) front_is
        ∙ insert_front a b slot e (let n = length-take cut (get_or ls at []) in omega (arith, n, le, few))
        ∙ ap (λ l. insert l slot e) whole)

    pub cut_back : (slot : ℕ) (e : List ℕ × V) → cut ≤ slot → cut ≤ length (get_or ls at [])
        → entries_in (set now (at + 1) (insert (get_or now (at + 1) []) (slot - cut) e)) ≡ entries_with ls at slot e
    cut_back slot e le few =
        let a : List (List ℕ × V) = take cut (get_or ls at []) in
        let b : List (List ℕ × V) = drop cut (get_or ls at []) in
        let z : List (List ℕ × V) = insert (get_or now (at + 1) []) (slot - cut) e in
        ap (λ zs. entries_in (set zs (at + 1) z)) two_after
        ∙ ap entries_in (set_at (take at ls ++ a ∷ []) b (drop (at + 1) ls) z (at + 1) before_after
        ∙ append_assoc (take at ls) (a ∷ []) (z ∷ drop (at + 1) ls)) ∙ joined_two (take at ls) a z (drop (at + 1) ls)
        ∙ ap (λ m. entries_in (take at ls) ++ m ++ entries_in (drop (at + 1) ls))
        (ap (λ l. a ++ insert l (slot - cut) e) back_is
        ∙ insert_back a b slot (slot - cut) e (let n = length-take cut (get_or ls at []) in omega (arith, n, le, few))
        ∙ ap (λ l. insert l slot e) whole)

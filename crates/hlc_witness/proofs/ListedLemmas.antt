-- The changes that are found key by key and point by point are all changes, in order: those of one key ascend with the
-- points, and each key is above the ones before it.
use Rattle.std.proofs.Common.{Contains, All, true≢false, nat_cmp, Less, Ordering, Option, Some, None, length, get_or}
use Rattle.std.proofs.Common.{drop, refl, sym, ap, ◌∙◌, subst, ◌⊎◌, inl, inr, arith, cond, true, false, ◌≡◌, Bool, ◌≢◌}
use Rattle.std.proofs.Common.{ℕ, List, [], ◌∷◌, suc, ◌-◌, ◌<◌, ◌+◌, ◌++◌, zero}
use Rattle.std.specs.{Cmp.Lexicographic.slice_cmp, Ordering.ordering_then, List.Sorted.IsStrictlySortedBy}
use Rattle.std.proofs.lemmas.{Bool.cases_Bool, List.drop_more, List.drop_all}
use Rattle.std.proofs.lemmas.{Cmp.nat_list_cmp_total, Cmp.tied_itself, Map.Keys.sorted_from_strictly_increasing}
use Rattle.std.proofs.lemmas.List.Elements.{All-contains, All-from_recursion, Contains-get_or, All-cons, All-nil}
use Rattle.std.proofs.lemmas.List.Elements.{All-append, Contains-append_cases, Contains-append_left, recursion_from_All}
use Rattle.std.proofs.lemmas.List.Elements.{Contains-append_right}
use Rattle.hlc_values.proofs.MemberLemmas.{Contains-none, Contains-cons_cases, Contains-first, Contains-rest}
use Rattle.hlc_clock.specs.Points.{IsPointBefore, PointsAscend}
use Rattle.hlc_rows.specs.{Rows.newest, Rows.answer, declared.row.Row.Row}
use Rattle.hlc_rows.proofs.NewestLemmas.{newest_is_greatest, no_newest_no_row, answer_none, answer_stays}
use Rattle.hlc_witness.specs.AllChanges.{is_same_answer, key_changes, changes_of}
use Rattle.hlc_witness.specs.{Changes.IsChange, Changes.change_cmp, Changes.answer_at, declared.witness.Witness.Witness}
use Rattle.hlc_witness.proofs.AnswerLemmas.{same_answer_true, same_answer_from}
use Rattle.hlc_witness.proofs.PlaceLemmas.{first_point, next_point, before_one}

-- each is a point that comes right after the one before it
abbrev pub Follows : List ℕ → Option ℕ → List ℕ → Type 0
Follows points before [] = Unit {0}
Follows points before (p ∷ ps) = Contains points p × IsPointBefore points before p × Follows points (Some p) ps

follows_from : (points : List ℕ) → PointsAscend points → (n j : ℕ) (before : Option ℕ) → n + j ≡ length points
    → ((lt : j < length points) → IsPointBefore points before (get_or points j 0))
    → Follows points before (drop j points)
follows_from points rise zero j before e is = subst (Follows points before) (sym (drop_all j points (omega arith))) tt
follows_from points rise (suc n) j before e is =
    let lt : j < length points = omega arith in
    subst (Follows points before) (sym (drop_more points j 0 lt)) (
      Contains-get_or points j 0 lt,
      is lt,
      follows_from points rise n (j + 1) (Some (get_or points j 0)) (omega arith) (λ m.
          next_point points (j + 1) (get_or points (j + 1) 0) (get_or points j 0) rise m refl (omega arith)
          (ap (λ k. get_or points k 0) (let f : j + 1 - 1 ≡ j = omega arith in f))),
    )

pub follows : (points : List ℕ) → PointsAscend points → Follows points None points
follows points rise = follows_from points rise (length points) 0 None (omega arith)
    (λ lt. first_point points 0 (get_or points 0 0) rise lt refl refl)

change_same : (k l : List ℕ) (b d : Option ℕ) (p q : ℕ) → k ≡ l → b ≡ d → p ≡ q
    → ◌≡◌ {A = Witness} (record { key = k; before = b; at = p }) (record { key = l; before = d; at = q })
change_same k l b d p q e f g = cc

pub all_from : {X : Type 0} (P : X → Type 0) (xs : List X) → ((x : X) → Contains xs x → P x) → All P xs
all_from P [] h = All-nil P
all_from P (x ∷ xs) h =
    All-cons P x xs (h x (Contains-first x xs)) (all_from P xs (λ y i. h y (Contains-rest x y xs i)))

one_member : {X : Type 0} (b : Bool) (a x : X) → Contains (cond b [] (a ∷ [])) x → a ≡ x
one_member true a x i = absurd (Contains-none x i)
one_member false a x i = elim (Contains-cons_cases a x [] i) [ inl e ↦ e | inr r ↦ absurd (Contains-none x r) ]

-- the changes of one point
key_step : (rows : List Row) (key : List ℕ) (before : Option ℕ) (p : ℕ) (ps : List ℕ) (c : Witness)
    → Contains (key_changes rows key before (p ∷ ps)) c
    → ((is_same_answer (answer rows key p) (answer_at rows key before) ≡ false)
    × (◌≡◌ {A = Witness} (record { key = key; before = before; at = p }) c))
    ⊎ Contains (key_changes rows key (Some p) ps) c
unfolding key_changes
key_step rows key before p ps c i =
    elim (cases_Bool (is_same_answer (answer rows key p) (answer_at rows key before))) [
      | inl t ↦ inr (subst (λ b. Contains
          (cond b [] (record { key = key; before = before; at = p } ∷ []) ++ key_changes rows key (Some p) ps) c) t i)
      | inr f ↦
          let j : Contains (record { key = key; before = before; at = p } ∷ key_changes rows key (Some p) ps) c = subst
          (λ b. Contains (cond b [] (record { key = key; before = before; at = p } ∷ [])
          ++ key_changes rows key (Some p) ps) c) f i in
          elim (Contains-cons_cases (record { key = key; before = before; at = p }) c
          (key_changes rows key (Some p) ps) j) [
            | inl e ↦ inl (f, e)
            | inr r ↦ inr r
          ]
    ]

-- each is a change of the key, at one of the points
key_each : (rows : List Row) (points : List ℕ) (key : List ℕ) (before : Option ℕ) (ps : List ℕ)
    → Follows points before ps → (c : Witness) → Contains (key_changes rows key before ps) c
    → IsChange rows points c × (c.key ≡ key) × Contains ps c.at
unfolding key_changes
key_each rows points key before [] f c i = absurd (Contains-none c i)
key_each rows points key before (p ∷ ps) f c i =
    elim (key_step rows key before p ps c i) [
      | inl (ne, e) ↦ subst (λ (x : Witness). IsChange rows points x × (x.key ≡ key) × Contains (p ∷ ps) x.at) e (
        record {
          place = record { point = f.0; neighbour = f.1 };
          differs =
              λ same. true≢false (sym (same_answer_from (answer rows key p) (answer_at rows key before) same) ∙ ne);
        },
        refl,
        Contains-first p ps,
      )
      | inr r ↦ let h = key_each rows points key (Some p) ps f.2 c r in (h.0, h.1, Contains-rest p c.at ps h.2)
    ]

-- every change of the key at one of the points is there
key_every : (rows : List Row) (points : List ℕ) (key : List ℕ) (before : Option ℕ) (ps : List ℕ)
    → Follows points before ps → (c : Witness) → IsChange rows points c → c.key ≡ key → Contains ps c.at
    → Contains (key_changes rows key before ps) c
unfolding key_changes
key_every rows points key before [] f c is k i = absurd (Contains-none c.at i)
key_every rows points key before (p ∷ ps) f c is k i =
    elim (Contains-cons_cases p c.at ps i) [
      | inl at_p ↦
          let b : c.before ≡ before = before_one points c.at c.before before is.place.neighbour
          (subst (IsPointBefore points before) at_p f.1) in
          let same : ◌≡◌ {A = Witness} (record { key = key; before = before; at = p }) c =
          change_same key c.key before c.before p c.at (sym k) (sym b) at_p in
          elim (cases_Bool (is_same_answer (answer rows key p) (answer_at rows key before))) [
            | inl t ↦ absurd
                (is.differs (subst (λ (x : Witness). answer rows x.key x.at ≡ answer_at rows x.key x.before) same
                (same_answer_true (answer rows key p) (answer_at rows key before) t)))
            | inr ne ↦ subst (λ x. Contains
                (cond x [] (record { key = key; before = before; at = p } ∷ []) ++ key_changes rows key (Some p) ps) c)
                (sym ne)
                (subst (λ (x : Witness). Contains
                (record { key = key; before = before; at = p } ∷ key_changes rows key (Some p) ps) x) same
                (Contains-first (record { key = key; before = before; at = p }) (key_changes rows key (Some p) ps)))
          ]
      | inr r ↦ Contains-append_right (cond (is_same_answer (answer rows key p) (answer_at rows key before)) []
          (record { key = key; before = before; at = p } ∷ [])) (key_changes rows key (Some p) ps) c
          (key_every rows points key (Some p) ps f.2 c is k r)
    ]

-- lists that are strictly sorted, one below the other
pub sorted_append : {X : Type 0} (R : X → X → Ordering) (xs ys : List X) → IsStrictlySortedBy R xs
    → IsStrictlySortedBy R ys → ((x y : X) → Contains xs x → Contains ys y → R x y ≡ Less)
    → IsStrictlySortedBy R (xs ++ ys)
unfolding IsStrictlySortedBy
sorted_append R [] ys a b below = b
sorted_append {X} R (x ∷ xs) ys a b below = (
  recursion_from_All (λ y. R x y ≡ Less) (xs ++ ys)
      (All-append (λ y. R x y ≡ Less) xs ys (All-from_recursion (λ y. R x y ≡ Less) xs a.0)
      (all_from (λ y. R x y ≡ Less) ys (λ y i. below x y (Contains-first x xs) i))),
  sorted_append R xs ys a.1 b (λ u y i j. below u y (Contains-rest x u xs i) j),
)

-- the changes of one key ascend
key_sorted : (rows : List Row) (points : List ℕ) (key : List ℕ) (before : Option ℕ) (ps : List ℕ)
    → Follows points before ps → IsStrictlySortedBy nat_cmp ps
    → IsStrictlySortedBy change_cmp (key_changes rows key before ps)
unfolding key_changes IsStrictlySortedBy
key_sorted rows points key before [] f up = tt
key_sorted rows points key before (p ∷ ps) f up =
    let rest : IsStrictlySortedBy change_cmp (key_changes rows key (Some p) ps) =
    key_sorted rows points key (Some p) ps f.2 up.1 in
    sorted_append change_cmp (cond (is_same_answer (answer rows key p) (answer_at rows key before)) []
    (record { key = key; before = before; at = p } ∷ [])) (key_changes rows key (Some p) ps)
    (elim (is_same_answer (answer rows key p) (answer_at rows key before)) as (λ b. IsStrictlySortedBy change_cmp
    (cond b [] (record { key = key; before = before; at = p } ∷ []))) [ true ↦ tt | false ↦ (tt, tt) ])
    rest
    (λ x y i j.
    let h = key_each rows points key (Some p) ps f.2 y j in
    let e : ◌≡◌ {A = Witness} (record { key = key; before = before; at = p }) x =
    one_member (is_same_answer (answer rows key p) (answer_at rows key before))
    (record { key = key; before = before; at = p }) x i in
    let less : nat_cmp p y.at ≡ Less =
    All-contains (λ q. nat_cmp p q ≡ Less) ps y.at (All-from_recursion (λ q. nat_cmp p q ≡ Less) ps up.0) h.2 in
    subst (λ (z : Witness). change_cmp z y ≡ Less) e (ap (λ o. ordering_then o (nat_cmp p y.at))
    (ap (slice_cmp nat_cmp key) h.1 ∙ tied_itself nat_list_cmp_total key) ∙ less))

-- a change is of a key that has a row
pub change_has_row : (rows : List Row) (points : List ℕ) (c : Witness) → IsChange rows points c
    → (row : Row) × Contains rows row × (row.key ≡ c.key)
change_has_row rows points c is =
    elim (newest rows c.key c.at) as (λ o. newest rows c.key c.at ≡ o
    → (row : Row) × Contains rows row × (row.key ≡ c.key)) [
      | Some row ↦ λ e. let n = newest_is_greatest rows c.key c.at row e in (row, n.member, n.of_key)
      | None ↦ λ e.
          elim c.before as (λ b. IsPointBefore points b c.at → (answer rows c.key c.at ≢ answer_at rows c.key b)
          → (row : Row) × Contains rows row × (row.key ≡ c.key)) [
            | None ↦ λ n d. absurd (d (answer_none rows c.key c.at e))
            | Some q ↦ λ n d. absurd (d (answer_stays rows c.key q c.at (omega (arith, n.1))
                (λ w i a l. absurd (no_newest_no_row rows c.key c.at w e i a l))))
          ] is.place.neighbour is.differs
    ] refl

-- the changes of all keys
pub changes_each : (rows : List Row) (points : List ℕ) → PointsAscend points → (ks : List (List ℕ)) (c : Witness)
    → Contains (changes_of rows points ks) c → IsChange rows points c × Contains ks c.key
changes_each rows points rise [] c i = absurd (Contains-none c i)
changes_each rows points rise (k ∷ ks) c i =
    elim (Contains-append_cases (key_changes rows k None points) (changes_of rows points ks) c i) [
      | inl a ↦ let h = key_each rows points k None points (follows points rise) c a in
          (h.0, subst (λ x. Contains (k ∷ ks) x) (sym h.1) (Contains-first k ks))
      | inr b ↦ let h = changes_each rows points rise ks c b in (h.0, Contains-rest k c.key ks h.1)
    ]

pub changes_every : (rows : List Row) (points : List ℕ) → PointsAscend points → (ks : List (List ℕ)) (c : Witness)
    → IsChange rows points c → Contains ks c.key → Contains (changes_of rows points ks) c
changes_every rows points rise [] c is i = absurd (Contains-none c.key i)
changes_every rows points rise (k ∷ ks) c is i =
    elim (Contains-cons_cases k c.key ks i) [
      | inl e ↦ Contains-append_left (key_changes rows k None points) (changes_of rows points ks) c
          (key_every rows points k None points (follows points rise) c is (sym e) is.place.point)
      | inr r ↦ Contains-append_right (key_changes rows k None points) (changes_of rows points ks) c
          (changes_every rows points rise ks c is r)
    ]

pub changes_sorted : (rows : List Row) (points : List ℕ) → PointsAscend points → (ks : List (List ℕ))
    → IsStrictlySortedBy (slice_cmp nat_cmp) ks → IsStrictlySortedBy change_cmp (changes_of rows points ks)
unfolding IsStrictlySortedBy
changes_sorted rows points rise [] up = tt
changes_sorted rows points rise (k ∷ ks) up =
    sorted_append change_cmp (key_changes rows k None points) (changes_of rows points ks)
    (key_sorted rows points k None points (follows points rise) (sorted_from_strictly_increasing points rise.1))
    (changes_sorted rows points rise ks up.1)
    (λ x y i j.
    let a = key_each rows points k None points (follows points rise) x i in
    let b = changes_each rows points rise ks y j in
    let less : slice_cmp nat_cmp k y.key ≡ Less = All-contains (λ l. slice_cmp nat_cmp k l ≡ Less) ks y.key
    (All-from_recursion (λ l. slice_cmp nat_cmp k l ≡ Less) ks up.0) b.1 in
    ap (λ o. ordering_then o (nat_cmp x.at y.at)) (ap (λ l. slice_cmp nat_cmp l y.key) a.1 ∙ less))

-- Writes of different keys, found by the marks of their keys.
use Rattle.std.proofs.Common.{◌≡◌, ◌≢◌, ◌∙◌, ◌⊎◌, ℕ, zero, suc, ◌+◌, ◌-◌, ◌<◌, List, [], ◌∷◌, ◌++◌, length}
use Rattle.std.proofs.Common.{append_assoc, take_at, get_or-set_same, get_or-set_other, length-set, take, set, get_or}
use Rattle.std.proofs.Common.{Bool, true, false, Option, None, Some, bytes_eq, refl, sym, ap, subst, inl, inr, arith}
use Rattle.std.proofs.Common.{length-append}
use Rattle.std.proofs.lemmas.{Bool.or_parts, Bool.or_cases, Bool.or_left, Bool.or_right, Bool.or_from}
use Rattle.std.proofs.lemmas.{Bool.false_from_ne_true, Bool.false≢true, Bool.cases_eq, Slice.Eq.bytes_eq-Decides}
use Rattle.hlc_rows.specs.{declared.write.Write.Write, Limits.write_refusal}
use Rattle.hlc_rows.specs.declared.limits.BodyFault.{BodyFault, TheVariants.KeyTwice}
use Rattle.hlc_rows.specs.Writes.{all_refusal, first_of, writes_key, writes_refusal, writes_twice, marks_of}

pub take-more : {A : Type 0} (n : ℕ) (x : A) (xs : List A) → n ≢ 0 → take n (x ∷ xs) ≡ x ∷ take (n - 1) xs
take-more zero x xs some = absurd (some refl)
take-more (suc n) x xs some =
    let less : suc n - 1 ≡ n = omega arith in
    rw less refl

same : (a b : List ℕ) → bytes_eq a b ≡ true → a ≡ b
same a b h = (bytes_eq-Decides a b).0 h

same-key : (a b : List ℕ) → a ≡ b → bytes_eq a b ≡ true
same-key a b h = (bytes_eq-Decides a b).1 h

apart : (a b : List ℕ) → bytes_eq a b ≡ false → bytes_eq b a ≡ false
apart a b h = false_from_ne_true (bytes_eq b a) (λ is. false≢true (sym h ∙ same-key a b (sym (same b a is))))

-- a write that is among others is of its key
within : (key : List ℕ) (before : List Write) (write : Write) (after : List Write) → write.key ≡ key
    → writes_key key (before ++ write ∷ after) ≡ true
within key [] write after is = or_left (bytes_eq write.key key) (writes_key key after) (same-key write.key key is)
within key (first ∷ before) write after is =
    or_right (bytes_eq first.key key) (writes_key key (before ++ write ∷ after)) (within key before write after is)

-- a write whose key one before it has
found : (before : List Write) (write : Write) (after : List Write) → writes_key write.key before ≡ true
    → writes_twice (before ++ write ∷ after) ≡ true
found [] write after h = absurd (false≢true h)
found (first ∷ before) write after h =
    elim (or_cases (bytes_eq first.key write.key) (writes_key write.key before) h) [
      | inl is ↦ or_left (writes_key first.key (before ++ write ∷ after)) (writes_twice (before ++ write ∷ after))
          (within first.key before write after (sym (same first.key write.key is)))
      | inr later ↦ or_right (writes_key first.key (before ++ write ∷ after)) (writes_twice (before ++ write ∷ after))
          (found before write after later)
    ]

-- one more write, of another key
no-more : (key : List ℕ) (before : List Write) (write : Write) → writes_key key before ≡ false
    → bytes_eq write.key key ≡ false → writes_key key (before ++ write ∷ []) ≡ false
no-more key [] write none other = or_from (bytes_eq write.key key) false other refl
no-more key (first ∷ before) write none other =
    let parts = or_parts (bytes_eq first.key key) (writes_key key before) none in
    or_from (bytes_eq first.key key) (writes_key key (before ++ write ∷ [])) parts.0
    (no-more key before write parts.1 other)

still-once : (before : List Write) (write : Write) → writes_twice before ≡ false → writes_key write.key before ≡ false
    → writes_twice (before ++ write ∷ []) ≡ false
still-once [] write once none = refl
still-once (first ∷ before) write once none =
    let parts = or_parts (writes_key first.key before) (writes_twice before) once in
    let keys = or_parts (bytes_eq first.key write.key) (writes_key write.key before) none in
    or_from (writes_key first.key (before ++ write ∷ [])) (writes_twice (before ++ write ∷ []))
    (no-more first.key before write parts.0 (apart first.key write.key keys.0)) (still-once before write parts.1 keys.1)

-- of one more write, the key is that of the last one or of one before
last-or-before : (key : List ℕ) (before : List Write) (write : Write) → writes_key key (before ++ write ∷ []) ≡ true
    → (writes_key key before ≡ true) ⊎ (write.key ≡ key)
last-or-before key [] write h =
    elim (or_cases (bytes_eq write.key key) false h) [
      | inl is ↦ inr (same write.key key is)
      | inr not ↦ absurd (false≢true not)
    ]
last-or-before key (first ∷ before) write h =
    elim (or_cases (bytes_eq first.key key) (writes_key key (before ++ write ∷ [])) h) [
      | inl is ↦ inl (or_left (bytes_eq first.key key) (writes_key key before) is)
      | inr later ↦
          elim (last-or-before key before write later) [
            | inl earlier ↦ inl (or_right (bytes_eq first.key key) (writes_key key before) earlier)
            | inr last ↦ inr last
          ]
    ]

-- this mark is set
abbrev IsSet : List Bool → ℕ → Type 0
IsSet marks mark = get_or marks mark false ≡ true

-- a mark that is set
sets : (marks : List Bool) (mark : ℕ) → mark < length marks → IsSet (set marks mark true) mark
sets marks mark low = get_or-set_same marks mark true false low

-- a mark stays set when others are
stays-set : (marks : List Bool) (mark other : ℕ) → other < length marks → IsSet marks mark
    → IsSet (set marks other true) mark
stays-set marks mark other low is =
    elim (cases_eq mark other) [
      | inl here ↦ subst (λ m. IsSet (set marks other true) m) (sym here) (sets marks other low)
      | inr there ↦ get_or-set_other marks other mark true false there ∙ is
    ]

-- the writes before the rest are of different keys, and both marks of each of their keys are set
pub record Passed (writes : List Write) (marks : List Bool) (rest : List Write) : Type 0 where
  pub before : List Write
  pub parts : writes ≡ before ++ rest
  pub once : writes_twice before ≡ false
  pub room : length marks ≡ 4096
  pub marked : (key : List ℕ) → writes_key key before ≡ true
      → IsSet marks (marks_of key).0 × IsSet marks (marks_of key).1

-- how many writes there are before the next one
pub passed-count : (writes : List Write) (marks : List Bool) (rest : List Write) (write : Write) (others : List Write)
    → (p : Passed writes marks rest) → rest ≡ write ∷ others → length writes ≡ length p.before + 1 + length others
passed-count writes marks rest write others p is =
    let all' : length writes ≡ length (p.before ++ (write ∷ others)) =
    ap length (p.parts ∙ ap (λ (xs : List Write). p.before ++ xs) is) in
    omega (arith, all', length-append p.before (write ∷ others))

-- those are the first of all
firsts : (writes : List Write) (marks : List Bool) (rest : List Write) (write : Write) (others : List Write) (many : ℕ)
    → (p : Passed writes marks rest) → rest ≡ write ∷ others → many ≡ length writes - 1 - length others
    → take many writes ≡ p.before
firsts writes marks rest write others many p is count =
    let all' = passed-count writes marks rest write others p is in
    ap (λ (xs : List Write). take many xs) p.parts ∙ take_at p.before rest many (omega (arith, all', count))

-- the key of the next write is found among those before
pub passed-found : (writes : List Write) (marks : List Bool) (rest : List Write) (write : Write) (others : List Write)
    (many : ℕ) → Passed writes marks rest → rest ≡ write ∷ others → many ≡ length writes - 1 - length others
    → writes_key write.key (take many writes) ≡ true → writes_twice writes ≡ true
passed-found writes marks rest write others many p is count h =
    let all' : writes ≡ p.before ++ (write ∷ others) = p.parts ∙ ap (λ (xs : List Write). p.before ++ xs) is in
    subst (λ xs. writes_twice xs ≡ true) (sym all')
    (found p.before write others
    (sym (ap (writes_key write.key) (firsts writes marks rest write others many p is count)) ∙ h))

-- the key of the next write is not among those before, since one of its marks is not set or no key is the same
pub passed-more : (writes : List Write) (marks : List Bool) (rest : List Write) (write : Write) (others : List Write)
    (many : ℕ) (at : ℕ × ℕ) → Passed writes marks rest → rest ≡ write ∷ others
    → many ≡ length writes - 1 - length others → at ≡ marks_of write.key → at.0 < 4096 → at.1 < 4096
    → (get_or marks at.0 false ≡ false) ⊎ ((get_or marks at.1 false ≡ false)
    ⊎ (writes_key write.key (take many writes) ≡ false)) → Passed writes (set (set marks at.0 true) at.1 true) others
passed-more writes marks rest write others many at p is count of one two new =
    let low : at.0 < length marks = omega (arith, one, p.room) in
    let low' : at.1 < length (set marks at.0 true) = omega (arith, two, p.room, length-set marks at.0 true) in
    let unseen : (mark : ℕ) → (writes_key write.key p.before ≡ true → IsSet marks mark)
    → get_or marks mark false ≡ false → writes_key write.key p.before ≡ false =
    λ mark seen unset. false_from_ne_true (writes_key write.key p.before) (λ h. false≢true (sym unset ∙ seen h)) in
    let none : writes_key write.key p.before ≡ false =
    elim new [
      | inl unset ↦ unseen at.0 (λ h. subst (λ m. IsSet marks m.0) (sym of) ((p.marked write.key h).0)) unset
      | inr (inl unset) ↦
          unseen at.1 (λ h. subst (λ m. IsSet marks m.1) (sym of) ((p.marked write.key h).1)) unset
      | inr (inr h) ↦ sym (ap (writes_key write.key) (firsts writes marks rest write others many p is count)) ∙ h
    ] in
    let both : (mark : ℕ) → IsSet marks mark → IsSet (set (set marks at.0 true) at.1 true) mark =
    λ mark h. stays-set (set marks at.0 true) mark at.1 low' (stays-set marks mark at.0 low h) in record {
      before = p.before ++ write ∷ [];
      parts = p.parts ∙ ap (λ (xs : List Write). p.before ++ xs) is ∙ sym (append_assoc p.before (write ∷ []) others);
      once = still-once p.before write p.once none;
      room = length-set (set marks at.0 true) at.1 true ∙ length-set marks at.0 true ∙ p.room;
      marked = λ key h.
          elim (last-or-before key p.before write h) [
            | inl earlier ↦
                (both (marks_of key).0 ((p.marked key earlier).0), both (marks_of key).1 ((p.marked key earlier).1))
            | inr last ↦
                subst (λ m. IsSet (set (set marks at.0 true) at.1 true) m.0
                × IsSet (set (set marks at.0 true) at.1 true) m.1) (of ∙ ap marks_of last) (
                  stays-set (set marks at.0 true) at.0 at.1 low' (sets marks at.0 low),
                  sets (set marks at.0 true) at.1 low',
                )
          ];
    }

-- the reason of one more write, after the reason so far
pub one-more : (found : Option BodyFault) (writes rest : List Write) (write : Write) (others : List Write)
    → writes_refusal writes ≡ first_of found (writes_refusal rest) → rest ≡ write ∷ others
    → writes_refusal writes ≡ first_of (first_of found (write_refusal write.key write.value)) (writes_refusal others)
one-more None writes rest write others so-far is = so-far ∙ ap writes_refusal is
one-more (Some fault) writes rest write others so-far is = so-far

pub refused-twice : (writes : List Write) → writes_twice writes ≡ true → all_refusal writes ≡ Some KeyTwice
refused-twice writes twice = rw twice refl

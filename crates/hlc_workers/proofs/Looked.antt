-- One more look at each word: what it found comes last, and the stamp is the least of it. Seen values only rise, so the
-- least of them does too, and no stamp is below the one before.
use Rattle.std.proofs.Common.{◌≡◌, ℕ, ◌+◌, ◌-◌, ◌<◌, ◌≤◌, List, [], ◌∷◌, ◌++◌, length, zero, suc, refl, ◌∙◌, sym, ap}
use Rattle.std.proofs.Common.{subst, arith, length-append, append_assoc, append-nil, slice_index}
use mathlib.Core.Logic.{dite}
use native.Mathlib.Decide.{dec_lt}
use Rattle.hlc_floor.specs.{Board.found_at, Views.FloorPassView, Views.IsLeast}
use Rattle.hlc_workers.specs.Rounds.{NeverFalls, HasFound, look_of, IsLeastFound, AreLeastFound}

-- the entries of a list with one more
at_front : (xs : List ℕ) (n k : ℕ) → k < length xs → slice_index (xs ++ n ∷ []) k ≡ slice_index xs k
at_front [] n k h = absurd (omega arith)
at_front (x ∷ xs) n zero h = refl
at_front (x ∷ xs) n (suc k) h = at_front xs n k (omega arith)

at_back : (xs : List ℕ) (n : ℕ) → slice_index (xs ++ n ∷ []) (length xs) ≡ n
at_back [] n = refl
at_back (x ∷ xs) n = at_back xs n

-- the least of greater numbers is no less
least_up : (words : ℕ) (xs ys : List ℕ) (m n : ℕ) → IsLeast words xs m → IsLeast words ys n
    → ((k : ℕ) → slice_index xs k ≤ slice_index ys k) → m ≤ n
least_up words xs ys m n p q up =
    let k = q.among.0 in
    let a = q.among.1 in
    let b = q.among.2 in
    let c = p.below k a in
    let d = up k in
    omega arith

-- stamps that never fall, and one more that is not below the last one
never_more : (xs : List ℕ) (n : ℕ) → NeverFalls xs → (0 < length xs → slice_index xs (length xs - 1) ≤ n)
    → NeverFalls (xs ++ n ∷ [])
never_more xs n h top i j le lt =
    let long : length (xs ++ n ∷ []) ≡ length xs + 1 = length-append xs (n ∷ []) in
    dite (dec_lt j (length xs))
    (λ (b : j < length xs).
    let a = at_front xs n i (omega arith) in
    let c = at_front xs n j b in
    let o = h i j le b in
    omega arith)
    (λ (nb : ¬ (j < length xs)).
    let last : length xs ≡ j = omega arith in
    let back : slice_index (xs ++ n ∷ []) j ≡ n =
    subst (λ (k : ℕ). slice_index (xs ++ n ∷ []) k ≡ n) last (at_back xs n) in
    dite (dec_lt i (length xs))
    (λ (b : i < length xs).
    let a = at_front xs n i b in
    let t = top (omega arith) in
    let o = h i (length xs - 1) (omega arith) (omega arith) in
    omega arith)
    (λ (ni : ¬ (i < length xs)).
    let e : i ≡ j = omega arith in
    subst (λ (k : ℕ). slice_index (xs ++ n ∷ []) k ≤ slice_index (xs ++ n ∷ []) j) (sym e) (omega arith)))

-- what a look found comes last, and what earlier looks found stays
stays_found : (now was : List ℕ) (n j : ℕ) → now ≡ was ++ n ∷ [] → j < length was
    → slice_index now j ≡ slice_index was j
stays_found now was n j is b = ap (λ (l : List ℕ). slice_index l j) is ∙ at_front was n j b

found_last : (now was : List ℕ) (n j : ℕ) → now ≡ was ++ n ∷ [] → j ≡ length was → slice_index now j ≡ n
found_last now was n j is e =
    ap (λ (l : List ℕ). slice_index l j) is ∙ ap (slice_index (was ++ n ∷ [])) e ∙ at_back was n

-- the list of what it found is longer by the number of its looks
length_found : (before after : FloorPassView) (k looks : ℕ) → HasFound before after k looks
    → length (found_at after.found k) ≡ length (found_at before.found k) + looks
length_found before after k looks h =
    let all = ap length h.1 in
    let long = length-append (found_at before.found k) h.0 in
    let more = h.2 in
    omega arith

-- one more look at a word
found_more : (first before after : FloorPassView) (k looks n : ℕ) → HasFound first before k looks
    → found_at after.found k ≡ found_at before.found k ++ n ∷ [] → HasFound first after k (looks + 1)
found_more first before after k looks n h is = (
  h.0 ++ n ∷ [],
  is ∙ ap (λ (l : List ℕ). l ++ n ∷ []) h.1 ∙ append_assoc (found_at first.found k) h.0 (n ∷ []),
  (let long = length-append h.0 (n ∷ []) in let had = h.2 in omega arith),
)

-- the least that earlier looks found stays
least_stays : (first before after : FloorPassView) (i m n : ℕ) → IsLeastFound first before i m → n ≡ m
    → ((k : ℕ) → k < first.board.words → look_of first after i k ≡ look_of first before i k)
    → IsLeastFound first after i n
least_stays first before after i m n h is same = record {
  among = (h.among.0, h.among.1, same h.among.0 h.among.1 ∙ h.among.2 ∙ sym is);
  below = λ k b. let s = same k b in let o = h.below k b in omega arith;
}

-- the least of what is seen is the least that the last looks found
least_last : (first after : FloorPassView) (i m n : ℕ) → IsLeast first.board.words after.seen m → n ≡ m
    → ((k : ℕ) → k < first.board.words → look_of first after i k ≡ slice_index after.seen k)
    → IsLeastFound first after i n
least_last first after i m n h is same = record {
  among = (h.among.0, h.among.1, same h.among.0 h.among.1 ∙ h.among.2 ∙ sym is);
  below = λ k b. let s = same k b in let o = h.below k b in omega arith;
}

-- before the first round
pub looked-none : (first : FloorPassView) → AreLeastFound first first []
looked-none first = record {
  board = refl;
  finds = λ k b. ([], sym (append-nil (found_at first.found k)), refl);
  least = λ i lt. absurd (omega arith);
  rises = λ k. omega arith;
  never_fall = λ i j le lt. absurd (omega arith);
  last = λ some_there. absurd (omega arith);
}

-- after one more round, which looked at each word once
pub looked_more : (first before after : FloorPassView) (words : ℕ) (stamps : List ℕ) (n : ℕ) → before.board.words
    ≡ words
    → AreLeastFound first before stamps → after.board ≡ before.board → IsLeast words after.seen n
    → ((k : ℕ) → k < words → found_at after.found k ≡ found_at before.found k ++ slice_index after.seen k ∷ [])
    → ((k : ℕ) → slice_index before.seen k ≤ slice_index after.seen k) → AreLeastFound first after (stamps ++ n ∷ [])
looked_more first before after words stamps n at h same least finds rises =
    let long : length (stamps ++ n ∷ []) ≡ length stamps + 1 = length-append stamps (n ∷ []) in
    let same_words : words ≡ first.board.words = sym at ∙ ap (λ b. b.words) h.board in
    let found : (k : ℕ) → k < first.board.words
    → found_at after.found k ≡ found_at before.found k ++ slice_index after.seen k ∷ [] =
    λ k b. finds k (omega arith) in
    let least' : IsLeast first.board.words after.seen n = subst (λ (w : ℕ). IsLeast w after.seen n) same_words least in
    record {
      board = same ∙ h.board;
      finds = λ k b. subst (λ (m : ℕ). HasFound first after k m) (sym long)
          (found_more first before after k (length stamps) (slice_index after.seen k) (h.finds k b) (found k b));
      least = λ i lt. dite (dec_lt i (length stamps))
          (λ (b : i < length stamps).
          least_stays first before after i (slice_index stamps i) (slice_index (stamps ++ n ∷ []) i) (h.least i b)
          (at_front stamps n i b)
          (λ k w. stays_found (found_at after.found k) (found_at before.found k) (slice_index after.seen k)
          (length (found_at first.found k) + i) (found k w)
          (let l = length_found first before k (length stamps) (h.finds k w) in omega arith)))
          (λ (nb : ¬ (i < length stamps)).
          let here : i ≡ length stamps = omega arith in
          least_last first after i n (slice_index (stamps ++ n ∷ []) i) least'
          (ap (slice_index (stamps ++ n ∷ [])) here ∙ at_back stamps n)
          (λ k w. found_last (found_at after.found k) (found_at before.found k) (slice_index after.seen k)
          (length (found_at first.found k) + i) (found k w)
          (let l = length_found first before k (length stamps) (h.finds k w) in omega arith)));
      rises = λ k. let o = h.rises k in let l = rises k in omega arith;
      never_fall = never_more stamps n h.never_fall
          (λ some_there. least_up first.board.words before.seen after.seen (slice_index stamps (length stamps - 1)) n
          (h.last some_there) least' rises);
      last = λ _.
          let end : length (stamps ++ n ∷ []) - 1 ≡ length stamps = omega arith in
          subst (λ (m : ℕ). IsLeast first.board.words after.seen m)
          (sym (ap (slice_index (stamps ++ n ∷ [])) end ∙ at_back stamps n)) least';
    }

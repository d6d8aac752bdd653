-- A register is a map from ids to stamps. Its ids ascend and none is above the last id, so a new one is above all
-- others; an opening or a closing changes the look-up of one id alone.
use Rattle.std.proofs.Common.{◌⊎◌, subst, ◌≡◌, ◌≢◌, ℕ, ◌+◌, ◌<◌, ◌≤◌, List, [], ◌∷◌, ◌++◌, Some, None, refl, ap, sym}
use Rattle.std.proofs.Common.{◌∙◌, inl, inr, arith, All, true, ◌==◌, not, find, if◌then◌else◌, nat_le, option_map}
use Rattle.std.proofs.Common.{eq-eqb, ne_eqb, le-leb, leb-true}
use Rattle.std.proofs.lemmas.Bool.{cond-true, cond-false, cases_eq}
use Rattle.std.proofs.lemmas.List.Elements.{All-head, All-tail, All-weaker, All-filter, filter_passes}
use Rattle.std.proofs.lemmas.List.{Filters.length-filter_both, Kept.AllPairs-filter}
use Rattle.hlc_snapshot.specs.declared.snapshot.Snapshot.{Snapshot}
use Rattle.hlc_snapshot.specs.RegistryView.{RegistryView, IsRegister, Follows, at_once, opening, closing, closed}
use Rattle.hlc_snapshot.specs.RegistryView.{opened_at, stamp_in, stamps, stamps_to, without}

pub stamp_in-hit : (id : ℕ) (x : Snapshot) (xs : List Snapshot) → x.id ≡ id → stamp_in id (x ∷ xs) ≡ Some x.stamp
stamp_in-hit id x xs same =
    ap (option_map (λ snapshot. snapshot.stamp))
    (cond-true (x.id == id) (Some x) (find (λ snapshot. snapshot.id == id) xs) (eq-eqb _ _ same))

pub stamp_in-miss : (id : ℕ) (x : Snapshot) (xs : List Snapshot) → x.id ≢ id → stamp_in id (x ∷ xs) ≡ stamp_in id xs
stamp_in-miss id x xs other =
    ap (option_map (λ snapshot. snapshot.stamp))
    (cond-false (x.id == id) (Some x) (find (λ snapshot. snapshot.id == id) xs) (ne_eqb _ _ other))

without-hit : (id : ℕ) (x : Snapshot) (xs : List Snapshot) → x.id ≡ id → without id (x ∷ xs) ≡ without id xs
without-hit id x xs same = cond-false _ _ _ (ap not (eq-eqb _ _ same))

without-miss : (id : ℕ) (x : Snapshot) (xs : List Snapshot) → x.id ≢ id → without id (x ∷ xs) ≡ x ∷ without id xs
without-miss id x xs other = cond-true _ _ _ (ap not (ne_eqb _ _ other))

-- an id above all others is not open
stamp_in-above : (id : ℕ) (xs : List Snapshot) → All (λ snapshot. snapshot.id < id) xs → stamp_in id xs ≡ None
stamp_in-above id [] below = refl
stamp_in-above id (x ∷ xs) below =
    let low : x.id < id = All-head (λ snapshot. snapshot.id < id) x xs below in
    stamp_in-miss id x xs (λ same. omega arith)
    ∙ stamp_in-above id xs (All-tail (λ snapshot. snapshot.id < id) x xs below)

-- a snapshot that is appended is found by its id, if that is above the others
stamp_in-push_here : (y : Snapshot) (xs : List Snapshot) → All (λ snapshot. snapshot.id < y.id) xs
    → stamp_in y.id (xs ++ y ∷ []) ≡ Some y.stamp
stamp_in-push_here y [] below = stamp_in-hit y.id y [] refl
stamp_in-push_here y (x ∷ xs) below =
    let low : x.id < y.id = All-head (λ snapshot. snapshot.id < y.id) x xs below in
    stamp_in-miss y.id x (xs ++ y ∷ []) (λ same. omega arith)
    ∙ stamp_in-push_here y xs (All-tail (λ snapshot. snapshot.id < y.id) x xs below)

-- and it hides no other
pub stamp_in-push_other : (id : ℕ) (y : Snapshot) (xs : List Snapshot) → y.id ≢ id
    → stamp_in id (xs ++ y ∷ []) ≡ stamp_in id xs
stamp_in-push_other id y [] other = stamp_in-miss id y [] other
stamp_in-push_other id y (x ∷ xs) other =
    elim (cases_eq x.id id) [
      | inl same ↦ stamp_in-hit id x (xs ++ y ∷ []) same ∙ sym (stamp_in-hit id x xs same)
      | inr differs ↦ stamp_in-miss id x (xs ++ y ∷ []) differs ∙ stamp_in-push_other id y xs other
          ∙ sym (stamp_in-miss id x xs differs)
    ]

pub stamp_in-without_itself : (id : ℕ) (xs : List Snapshot) → stamp_in id (without id xs) ≡ None
stamp_in-without_itself id [] = refl
stamp_in-without_itself id (x ∷ xs) =
    elim (cases_eq x.id id) [
      | inl same ↦ ap (stamp_in id) (without-hit id x xs same) ∙ stamp_in-without_itself id xs
      | inr differs ↦ ap (stamp_in id) (without-miss id x xs differs) ∙ stamp_in-miss id x (without id xs) differs
          ∙ stamp_in-without_itself id xs
    ]

pub stamp_in-without_other : (id other : ℕ) (xs : List Snapshot) → other ≢ id
    → stamp_in other (without id xs) ≡ stamp_in other xs
stamp_in-without_other id other [] differs = refl
stamp_in-without_other id other (x ∷ xs) differs =
    elim (cases_eq x.id id) [
      | inl removed ↦ ap (stamp_in other) (without-hit id x xs removed) ∙ stamp_in-without_other id other xs differs
          ∙ sym (stamp_in-miss other x xs (λ same. differs (sym same ∙ removed)))
      | inr kept ↦
          ap (stamp_in other) (without-miss id x xs kept)
          ∙ elim (cases_eq x.id other) [
            | inl same ↦ stamp_in-hit other x (without id xs) same ∙ sym (stamp_in-hit other x xs same)
            | inr apart ↦ stamp_in-miss other x (without id xs) apart ∙ stamp_in-without_other id other xs differs
                ∙ sym (stamp_in-miss other x xs apart)
          ]
    ]

-- the next id is above all ids of a register
pub next_id-above : (register : RegistryView) → IsRegister register
    → All (λ snapshot. snapshot.id < register.last_id + 1) register.snapshots
next_id-above register h =
    All-weaker (λ snapshot. (0 < snapshot.id) × (snapshot.id ≤ register.last_id))
    (λ snapshot. snapshot.id < register.last_id + 1) (λ x bounded. omega (arith, bounded.1)) register.snapshots
    h.bounded

pub next_id-fresh : (register : RegistryView) → IsRegister register
    → stamp_in (register.last_id + 1) register.snapshots ≡ None
next_id-fresh register h = stamp_in-above _ register.snapshots (next_id-above register h)

pub opened-here : (register : RegistryView) (stamp : ℕ) → IsRegister register
    → stamp_in (register.last_id + 1) (opened_at register stamp).snapshots ≡ Some stamp
opened-here register stamp h =
    stamp_in-push_here (record { id = register.last_id + 1; stamp = stamp }) register.snapshots
    (next_id-above register h)

pub opened-other : (register : RegistryView) (stamp id : ℕ) → id ≢ register.last_id + 1
    → stamp_in id (opened_at register stamp).snapshots ≡ stamp_in id register.snapshots
opened-other register stamp id other =
    stamp_in-push_other id (record { id = register.last_id + 1; stamp = stamp }) register.snapshots
    (λ same. other (sym same))

-- both in one: the map after an opening
pub opened-map : (register : RegistryView) (stamp id : ℕ) → IsRegister register
    → stamp_in id (opened_at register stamp).snapshots
    ≡ (if id == register.last_id + 1 then Some stamp else stamp_in id register.snapshots)
opened-map register stamp id h =
    elim (cases_eq id (register.last_id + 1)) [
      | inl same ↦ ap (λ k. stamp_in k (opened_at register stamp).snapshots) same ∙ opened-here register stamp h
          ∙ sym (cond-true _ _ _ (eq-eqb _ _ same))
      | inr other ↦ opened-other register stamp id other ∙ sym (cond-false _ _ _ (ne_eqb _ _ other))
    ]

pub closed-here : (register : RegistryView) (id : ℕ) → stamp_in id (closed id register).snapshots ≡ None
closed-here register id = stamp_in-without_itself id register.snapshots

pub closed-other : (register : RegistryView) (id other : ℕ) → other ≢ id
    → stamp_in other (closed id register).snapshots ≡ stamp_in other register.snapshots
closed-other register id other differs = stamp_in-without_other id other register.snapshots differs

-- the map after a closing
pub closed-map : (register : RegistryView) (id other : ℕ)
    → stamp_in other (closed id register).snapshots ≡ (if other == id then None else stamp_in other register.snapshots)
closed-map register id other =
    elim (cases_eq other id) [
      | inl same ↦ ap (λ k. stamp_in k (closed id register).snapshots) same ∙ closed-here register id
          ∙ sym (cond-true _ _ _ (eq-eqb _ _ same))
      | inr differs ↦ closed-other register id other differs ∙ sym (cond-false _ _ _ (ne_eqb _ _ differs))
    ]

-- a register from which a snapshot was removed is a register
pub closed-is_register : (register : RegistryView) (id : ℕ) → IsRegister register → IsRegister (closed id register)
closed-is_register register id h = record {
  rising = AllPairs-filter (λ older newer. older.id < newer.id)
      (λ snapshot. not (snapshot.id == id)) register.snapshots h.rising;
  bounded =
      All-filter (λ snapshot. not (snapshot.id == id))
      (λ snapshot. (0 < snapshot.id) × (snapshot.id ≤ register.last_id)) register.snapshots h.bounded;
  few =
      (let both = length-filter_both (λ snapshot. not (snapshot.id == id)) (λ snapshot. not (not (snapshot.id == id)))
      (λ _. refl) register.snapshots in omega (arith, both, h.few));
  in_range = h.in_range;
}

opened-rises : {older newer : RegistryView} → Follows older newer → older.last_id ≤ newer.last_id
opened-rises at_once = omega arith
opened-rises (opening stamp follows) = (let rises = opened-rises follows in omega (arith, rises))
opened-rises (closing id follows) = opened-rises follows

-- a snapshot that is open with an old id was open before, with the same stamp
pub open_before : {older newer : RegistryView} (id stamp : ℕ) → Follows older newer → id ≤ older.last_id
    → stamp_in id newer.snapshots ≡ Some stamp → stamp_in id older.snapshots ≡ Some stamp
open_before id stamp at_once old found = found
open_before id stamp (opening {newer = between} at follows) old found =
    let rises : _ = opened-rises follows in
    open_before id stamp follows old
    (sym (opened-other between at id (λ same. omega (arith, rises, same, old))) ∙ found)
open_before id stamp (closing {newer = between} removed follows) old found =
    elim (cases_eq id removed) [
      | inl same ↦ absurd (let none : stamp_in id (closed removed between).snapshots ≡ None =
          ap (λ k. stamp_in k (closed removed between).snapshots) same ∙ closed-here between removed in cc)
      | inr differs ↦ open_before id stamp follows old (sym (closed-other between removed id differs) ∙ found)
    ]

-- a snapshot that is found after another was appended was found before, or is that one
pub stamp_in-push_cases : (id stamp : ℕ) (y : Snapshot) (xs : List Snapshot) → stamp_in id (xs ++ y ∷ []) ≡ Some stamp
    → (stamp_in id xs ≡ Some stamp) ⊎ ((y.id ≡ id) × (y.stamp ≡ stamp))
stamp_in-push_cases id stamp y [] is =
    elim (cases_eq y.id id) [
      | inl same ↦ inr (same, (let e : Some y.stamp ≡ Some stamp = sym (stamp_in-hit id y [] same) ∙ is in cc))
      | inr other ↦ absurd (let e : None ≡ Some stamp = sym (stamp_in-miss id y [] other) ∙ is in cc)
    ]
stamp_in-push_cases id stamp y (x ∷ xs) is =
    elim (cases_eq x.id id) [
      | inl same ↦ inl (stamp_in-hit id x xs same ∙ sym (stamp_in-hit id x (xs ++ y ∷ []) same) ∙ is)
      | inr other ↦
          elim (stamp_in-push_cases id stamp y xs (sym (stamp_in-miss id x (xs ++ y ∷ []) other) ∙ is)) [
            | inl before ↦ inl (stamp_in-miss id x xs other ∙ before)
            | inr last ↦ inr last
          ]
    ]

-- what is true of all snapshots' stamps is true of the one that is found
pub stamp_in-all : (P : ℕ → Type 0) (id stamp : ℕ) (xs : List Snapshot) → All (λ snapshot. P snapshot.stamp) xs
    → stamp_in id xs ≡ Some stamp → P stamp
stamp_in-all P id stamp [] all' is = absurd (cc)
stamp_in-all P id stamp (x ∷ xs) all' is =
    elim (cases_eq x.id id) [
      | inl same ↦
          let e : Some x.stamp ≡ Some stamp = sym (stamp_in-hit id x xs same) ∙ is in
          let f : x.stamp ≡ stamp = cc in subst P f (All-head (λ snapshot. P snapshot.stamp) x xs all')
      | inr other ↦ stamp_in-all P id stamp xs (All-tail (λ snapshot. P snapshot.stamp) x xs all')
          (sym (stamp_in-miss id x xs other) ∙ is)
    ]

-- the stamps up to a bound are at most the bound
pub stamps_to-low : (bound : ℕ) (snapshots : List Snapshot) → All (λ stamp. stamp ≤ bound) (stamps_to bound snapshots)
stamps_to-low bound snapshots =
    All-weaker (λ stamp. nat_le stamp bound ≡ true) (λ stamp. stamp ≤ bound) (λ stamp le. leb-true stamp bound le)
    (stamps_to bound snapshots) (filter_passes (λ stamp. nat_le stamp bound) (stamps snapshots))

-- and they are all the stamps, if none is above the bound
pub stamps_to-all : (bound : ℕ) (snapshots : List Snapshot) → All (λ snapshot. snapshot.stamp ≤ bound) snapshots
    → stamps_to bound snapshots ≡ stamps snapshots
stamps_to-all bound [] low = refl
stamps_to-all bound (x ∷ xs) low =
    cond-true (nat_le x.stamp bound) (x.stamp ∷ stamps_to bound xs) (stamps_to bound xs)
    (le-leb x.stamp bound (All-head (λ snapshot. snapshot.stamp ≤ bound) x xs low))
    ∙ ap (λ rest. x.stamp ∷ rest) (stamps_to-all bound xs (All-tail (λ snapshot. snapshot.stamp ≤ bound) x xs low))

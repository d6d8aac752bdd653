-- The differences between two stamps lead from one listing to the other, and no fewer changes do: a change sets the
-- value of one key, so each key whose value differs needs one.
use Rattle.std.proofs.Common.{◌≡◌, ◌≢◌, ◌↔◌, ◌⊎◌, ◌≤◌, ◌++◌, ◌∷◌, ◌∙◌, ℕ, List, [], false, cond, length, Option, Some}
use Rattle.std.proofs.Common.{None, refl, sym, ap, subst, inl, inr, map, Contains, true≢false, Ordering, Less, Equal}
use Rattle.std.proofs.Common.{Greater, nat_cmp, sum_by, arith}
use Rattle.std.specs.{Cmp.Lexicographic.slice_cmp, Str.bytes_eq, List.AllByRecursion, List.Sorted.IsStrictlySortedBy}
use Rattle.std.specs.Ordering.{match_ordering, ordering_reverse, is_eq}
use Rattle.std.proofs.lemmas.{Bool.cases_Bool, Slice.Eq.bytes_eq-Decides, Cmp.nat_list_cmp_total, Cmp.tied_itself}
use Rattle.hlc_values.proofs.MemberLemmas.{Contains-none, Contains-first, Contains-rest, Contains-cons_cases}
use Rattle.hlc_values.proofs.PigeonLemmas.{AreApart, Served, served, sum_by_one}
use Rattle.hlc_rows.specs.{declared.row.Row.Row, Rows.answer}
use Rattle.hlc_columns.proofs.FoundLemmas.{same_key}
use Rattle.hlc_columns.proofs.SameLemmas.{cases_same}
use Rattle.hlc_core.{specs.declared.listing.Pair.Pair, specs.Listing.IsListing, proofs.ListingLemmas.one-listing}
use Rattle.hlc_core.specs.Differences.{Difference, AreDifferences, pair_with, changed, patched}

abbrev key_cmp : List ℕ → List ℕ → Ordering
key_cmp a b = slice_cmp nat_cmp a b

abbrev keys : List Pair → List (List ℕ)
keys listing = map (λ pair. pair.key) listing

abbrev Ascend : List Pair → Type 0
Ascend listing = IsStrictlySortedBy (slice_cmp nat_cmp) (keys listing)

-- the value of a key in a listing
abbrev value_in : List ℕ → List Pair → Option (List ℕ)
value_in key [] = None
value_in key (pair ∷ listing) = cond (bytes_eq pair.key key) (Some pair.value) (value_in key listing)

-- ---- keys
less_apart : (a b : List ℕ) → key_cmp a b ≡ Less → a ≢ b
less_apart a b less same =
    let e : Less ≡ Equal =
    sym less ∙ ap (key_cmp a) (sym same) ∙ tied_itself nat_list_cmp_total a in cc

greater_less : (a b : List ℕ) → key_cmp a b ≡ Greater → key_cmp b a ≡ Less
greater_less a b greater = nat_list_cmp_total.antisymm b a ∙ ap ordering_reverse greater

apart_eq : (a b : List ℕ) → a ≢ b → bytes_eq a b ≡ false
apart_eq a b apart = elim (cases_Bool (bytes_eq a b)) [
  | inl t ↦ absurd (apart ((bytes_eq-Decides a b).0 t))
  | inr f ↦ f
]

later_at : (key : List ℕ) (listing : List Pair) (pair : Pair)
    → AllByRecursion (λ k. key_cmp key k ≡ Less) (keys listing) → Contains listing pair → key_cmp key pair.key ≡ Less
later_at key [] pair all m = absurd (Contains-none pair m)
later_at key (p ∷ listing) pair all m = elim (Contains-cons_cases p pair listing m) [
  | inl same ↦ subst (λ (x : Pair). key_cmp key x.key ≡ Less) same all.0
  | inr there ↦ later_at key listing pair all.1 there
]

all_past : (a b : List ℕ) (ks : List (List ℕ)) → key_cmp a b ≡ Less → AllByRecursion (λ k. key_cmp b k ≡ Less) ks
    → AllByRecursion (λ k. key_cmp a k ≡ Less) ks
all_past a b [] less all = tt
all_past a b (k ∷ ks) less all = (nat_list_cmp_total.trans a b k less all.0, all_past a b ks less all.1)

-- a key below all others is not listed
not_listed : (key : List ℕ) (listing : List Pair) → AllByRecursion (λ k. key_cmp key k ≡ Less) (keys listing)
    → value_in key listing ≡ None
not_listed key [] all = refl
not_listed key (pair ∷ listing) all =
    let f = apart_eq pair.key key (λ same. less_apart key pair.key all.0 (sym same)) in
    rw f (not_listed key listing all.1)

-- ---- one change
with_value : (k : List ℕ) (o : Option (List ℕ)) (listing : List Pair) (key : List ℕ) → value_in k listing ≡ None
    → value_in key (pair_with k o ++ listing) ≡ cond (bytes_eq k key) o (value_in key listing)
with_value k (Some value) listing key none = refl
with_value k None listing key none =
    elim (cases_Bool (bytes_eq k key)) [
      | inl t ↦ let same = (bytes_eq-Decides k key).0 t in rw (t, ← same) none
      | inr f ↦ rw f refl
    ]

-- of two keys that are apart at most one is this
one_of_two : (k other key : List ℕ) (o p rest : Option (List ℕ)) → k ≢ other
    → cond (bytes_eq other key) p (cond (bytes_eq k key) o rest)
    ≡ cond (bytes_eq k key) o (cond (bytes_eq other key) p rest)
one_of_two k other key o p rest apart =
    elim (cases_Bool (bytes_eq k key)) [
      | inl t ↦
          let f : bytes_eq other key ≡ false =
          apart_eq other key (λ same. apart ((bytes_eq-Decides k key).0 t ∙ sym same)) in
          rw (t, f) refl
      | inr f ↦ rw f refl
    ]

changed_value : (one : Difference) (listing : List Pair) (key : List ℕ) → Ascend listing
    → value_in key (changed one listing) ≡ cond (bytes_eq one.0 key) one.1 (value_in key listing)
unfolding IsStrictlySortedBy
changed_value one [] key up =
    ap (value_in key) (nothing_after (pair_with one.0 one.1)) ∙ with_value one.0 one.1 [] key refl
  where
    nothing_after : (listing : List Pair) → listing ≡ listing ++ []
    nothing_after [] = refl
    nothing_after (p ∷ listing) = ap (λ l. p ∷ l) (nothing_after listing)
changed_value one (pair ∷ listing) key up =
    let less : List Pair = pair_with one.0 one.1 ++ pair ∷ listing in
    let equal : List Pair = pair_with one.0 one.1 ++ listing in
    let greater : List Pair = pair ∷ changed one listing in
    elim (key_cmp one.0 pair.key) as (λ o. key_cmp one.0 pair.key ≡ o
    → value_in key (match_ordering o less equal greater)
    ≡ cond (bytes_eq one.0 key) one.1 (value_in key (pair ∷ listing))) [
      | Less ↦ λ is. with_value one.0 one.1 (pair ∷ listing) key
          (not_listed one.0 (pair ∷ listing) (is, all_past one.0 pair.key (keys listing) is up.0))
      | Equal ↦ λ is.
          let same : one.0 ≡ pair.key = same_key one.0 pair.key (ap is_eq is) in
          with_value one.0 one.1 listing key
          (ap (λ x. value_in x listing) same ∙ not_listed pair.key listing up.0)
          ∙ same_place one.0 pair.key key one.1 (Some pair.value) (value_in key listing) same
      | Greater ↦ λ is.
          ap (λ o. cond (bytes_eq pair.key key) (Some pair.value) o) (changed_value one listing key up.1)
          ∙ one_of_two one.0 pair.key key one.1 (Some pair.value) (value_in key listing)
          (λ same. less_apart pair.key one.0 (greater_less one.0 pair.key is) (sym same))
    ] refl
  where
    same_place : (k other key : List ℕ) (o p rest : Option (List ℕ)) → k ≡ other
        → cond (bytes_eq k key) o rest ≡ cond (bytes_eq k key) o (cond (bytes_eq other key) p rest)
    same_place k other key o p rest same =
        elim (cases_Bool (bytes_eq k key)) [
          | inl t ↦ rw t refl
          | inr f ↦ let g = ap (λ x. bytes_eq x key) (sym same) ∙ f in rw (f, g) refl
        ]

-- the keys still ascend
all_with : (P : List ℕ → Type 0) (k : List ℕ) (o : Option (List ℕ)) (listing : List Pair) → P k
    → AllByRecursion P (keys listing) → AllByRecursion P (keys (pair_with k o ++ listing))
all_with P k None listing at rest = rest
all_with P k (Some value) listing at rest = (at, rest)

all_changed : (P : List ℕ → Type 0) (one : Difference) (listing : List Pair) → P one.0
    → AllByRecursion P (keys listing) → AllByRecursion P (keys (changed one listing))
all_changed P (k, None) [] at rest = tt
all_changed P (k, Some value) [] at rest = (at, tt)
all_changed P one (pair ∷ listing) at rest =
    elim (key_cmp one.0 pair.key) as (λ o. AllByRecursion P (keys (match_ordering o
    (pair_with one.0 one.1 ++ pair ∷ listing) (pair_with one.0 one.1 ++ listing) (pair ∷ changed one listing)))) [
      | Less ↦ all_with P one.0 one.1 (pair ∷ listing) at rest
      | Equal ↦ all_with P one.0 one.1 listing at rest.1
      | Greater ↦ (rest.0, all_changed P one listing at rest.1)
    ]

ascend_with : (k : List ℕ) (o : Option (List ℕ)) (listing : List Pair)
    → AllByRecursion (λ x. key_cmp k x ≡ Less) (keys listing) → Ascend listing → Ascend (pair_with k o ++ listing)
unfolding IsStrictlySortedBy
ascend_with k None listing all up = up
ascend_with k (Some value) listing all up = (all, up)

changed_ascends : (one : Difference) (listing : List Pair) → Ascend listing → Ascend (changed one listing)
unfolding IsStrictlySortedBy
changed_ascends (k, None) [] up = tt
changed_ascends (k, Some value) [] up = (tt, tt)
changed_ascends one (pair ∷ listing) up =
    elim (key_cmp one.0 pair.key) as (λ o. key_cmp one.0 pair.key ≡ o → Ascend (match_ordering o
    (pair_with one.0 one.1 ++ pair ∷ listing) (pair_with one.0 one.1 ++ listing) (pair ∷ changed one listing))) [
      | Less ↦ λ is. ascend_with one.0 one.1 (pair ∷ listing)
          (is, all_past one.0 pair.key (keys listing) is up.0) up
      | Equal ↦ λ is. ascend_with one.0 one.1 listing
          (subst (λ k. AllByRecursion (λ x. key_cmp k x ≡ Less) (keys listing))
          (sym (same_key one.0 pair.key (ap is_eq is))) up.0) up.1
      | Greater ↦ λ is. (
        all_changed (λ k. key_cmp pair.key k ≡ Less) one listing (greater_less one.0 pair.key is) up.0,
        changed_ascends one listing up.1,
      )
    ] refl

-- ---- some changes
-- the value of a key after some changes
abbrev value_after : List ℕ → List Difference → Option (List ℕ) → Option (List ℕ)
value_after key [] value = value
value_after key (one ∷ more) value = value_after key more (cond (bytes_eq one.0 key) one.1 value)

patched_value : (changes : List Difference) (listing : List Pair) (key : List ℕ) → Ascend listing
    → value_in key (patched changes listing) ≡ value_after key changes (value_in key listing)
patched_value [] listing key up = refl
patched_value (one ∷ more) listing key up =
    patched_value more (changed one listing) key (changed_ascends one listing up)
    ∙ ap (value_after key more) (changed_value one listing key up)

patched_ascends : (changes : List Difference) (listing : List Pair) → Ascend listing → Ascend (patched changes listing)
patched_ascends [] listing up = up
patched_ascends (one ∷ more) listing up = patched_ascends more (changed one listing) (changed_ascends one listing up)

-- a key that is not among them keeps its value
value_stays : (key : List ℕ) (changes : List Difference) (value : Option (List ℕ))
    → ((one : Difference) → Contains changes one → one.0 ≢ key) → value_after key changes value ≡ value
value_stays key [] value none = refl
value_stays key (one ∷ more) value none =
    let f = apart_eq one.0 key (none one (Contains-first {X = Difference} one more)) in
    rw f (value_stays key more value (λ other m. none other (Contains-rest {X = Difference} one other more m)))

abbrev firsts : List Difference → List (List ℕ)
firsts changes = map (λ one. one.0) changes

first_later : {V : Type 0} (key : List ℕ) (items : List (List ℕ × V)) (one : List ℕ × V)
    → AllByRecursion (λ k. key_cmp key k ≡ Less) (map (λ item. item.0) items) → Contains items one
    → key_cmp key one.0 ≡ Less
first_later {V} key [] one all m = absurd (Contains-none {X = List ℕ × V} one m)
first_later {V} key (item ∷ items) one all m = elim (Contains-cons_cases {X = List ℕ × V} item one items m) [
  | inl same ↦ subst (λ (x : List ℕ × V). key_cmp key x.0 ≡ Less) same all.0
  | inr there ↦ first_later key items one all.1 there
]

-- items whose keys ascend have keys that are apart
abbrev pub HaveOtherKeys : {V : Type 0} → List ℕ × V → List ℕ × V → Type 0
HaveOtherKeys one other = one.0 ≢ other.0

pub keys_apart : {V : Type 0} (items : List (List ℕ × V))
    → IsStrictlySortedBy (slice_cmp nat_cmp) (map (λ item. item.0) items) → AreApart HaveOtherKeys items
unfolding IsStrictlySortedBy
keys_apart [] up = tt
keys_apart (one ∷ more) up = (
  λ other m. less_apart one.0 other.0 (first_later one.0 more other up.0 m),
  keys_apart more up.1,
)

-- one that is among them, each key once, has its new value
value_set : (changes : List Difference) (one : Difference) (value : Option (List ℕ))
    → IsStrictlySortedBy (slice_cmp nat_cmp) (firsts changes) → Contains changes one
    → value_after one.0 changes value ≡ one.1
unfolding IsStrictlySortedBy
value_set [] one value up m = absurd (Contains-none {X = Difference} one m)
value_set (c ∷ changes) one value up m = elim (Contains-cons_cases {X = Difference} c one changes m) [
  | inl same ↦
      let t = (bytes_eq-Decides c.0 one.0).1 (ap (λ (x : Difference). x.0) same) in
      rw t (value_stays one.0 changes c.1 (λ other there is.
      less_apart c.0 other.0 (first_later c.0 changes other up.0 there) (ap (λ (x : Difference). x.0) same ∙ sym is))
      ∙ ap (λ (x : Difference). x.1) same)
  | inr there ↦ value_set changes one (cond (bytes_eq c.0 one.0) c.1 value) up.1 there
]

-- ---- a listing by its values
into_value : (listing : List Pair) (key value : List ℕ) → Ascend listing
    → Contains listing (record { key = key; value = value }) → value_in key listing ≡ Some value
unfolding IsStrictlySortedBy
into_value [] key value up m = absurd (Contains-none {X = Pair} _ m)
into_value (pair ∷ listing) key value up m =
    elim (Contains-cons_cases pair (record { key = key; value = value }) listing m) [
      | inl same ↦
          let t = (bytes_eq-Decides pair.key key).1 (ap (λ (x : Pair). x.key) same) in
          rw t (ap (λ (x : Pair). Some x.value) same)
      | inr there ↦
          let f = apart_eq pair.key key (less_apart pair.key key
          (later_at pair.key listing (record { key = key; value = value }) up.0 there)) in
          rw f (into_value listing key value up.1 there)
    ]

from_value : (listing : List Pair) (key value : List ℕ) → value_in key listing ≡ Some value
    → Contains listing (record { key = key; value = value })
from_value [] key value is = absurd (cc)
from_value (pair ∷ listing) key value is = elim (cases_Bool (bytes_eq pair.key key)) [
  | inl t ↦
      let k : pair.key ≡ key = (bytes_eq-Decides pair.key key).0 t in
      let v : Some pair.value ≡ Some value = rw t at is in
      let same : pair.value ≡ value = cc in
      rw (← k, ← same) (Contains-first pair listing)
  | inr f ↦
      Contains-rest pair (record { key = key; value = value }) listing
      (from_value listing key value (rw f at is))
]

listed_value : (listing : List Pair) (key value : List ℕ) → Ascend listing
    → Contains listing (record { key = key; value = value }) ↔ (value_in key listing ≡ Some value)
listed_value listing key value up = (into_value listing key value up, from_value listing key value)

alike : (a b : Option (List ℕ)) → ((value : List ℕ) → (a ≡ Some value) ↔ (b ≡ Some value)) → a ≡ b
alike None None same = refl
alike None (Some y) same = (same y).1 refl
alike (Some x) b same = sym ((same x).0 refl)

listing_value : (rows : List Row) (stamp : ℕ) (listing : List Pair) → IsListing rows stamp listing → (key : List ℕ)
    → value_in key listing ≡ answer rows key stamp
listing_value rows stamp listing is key =
    alike (value_in key listing) (answer rows key stamp) (λ value. (
      λ here. (is.exact key value).0 ((listed_value listing key value is.ascending).1 here),
      λ here. (listed_value listing key value is.ascending).0 ((is.exact key value).1 here),
    ))

listing_from : (rows : List Row) (stamp : ℕ) (listing : List Pair) → Ascend listing
    → ((key : List ℕ) → value_in key listing ≡ answer rows key stamp) → IsListing rows stamp listing
listing_from rows stamp listing up each = record {
  ascending = up;
  exact = λ key value. (
    λ m. sym (each key) ∙ (listed_value listing key value up).0 m,
    λ is. (listed_value listing key value up).1 (each key ∙ is),
  );
}

-- ---- the differences lead from one listing to the other
leads_value : (rows : List Row) (from to : ℕ) (differences : List Difference)
    → AreDifferences rows from to (λ key. Unit {0}) differences → (key : List ℕ)
    → value_after key differences (answer rows key from) ≡ answer rows key to
leads_value rows from to differences are key =
    elim (cases_same (answer rows key from) (answer rows key to)) [
      | inl same ↦
          value_stays key differences (answer rows key from) (λ one m is.
          let at = (are.exact one.0 one.1).0 m in
          at.2 (ap (λ k. answer rows k from) is ∙ same ∙ ap (λ k. answer rows k to) (sym is) ∙ at.1))
          ∙ same
      | inr apart ↦
          value_set differences (key, answer rows key to) (answer rows key from) are.ascending
          ((are.exact key (answer rows key to)).1 (tt, refl, apart))
    ]

pub differences-lead : (rows : List Row) (from to : ℕ) (differences : List Difference) (listing next : List Pair)
    → AreDifferences rows from to (λ key. Unit {0}) differences → IsListing rows from listing
    → IsListing rows to next
    → patched differences listing ≡ next
differences-lead rows from to differences listing next are is also =
    one-listing rows to (patched differences listing) next
    (listing_from rows to (patched differences listing) (patched_ascends differences listing is.ascending)
    (λ key. patched_value differences listing key is.ascending
    ∙ ap (value_after key differences) (listing_value rows from listing is key)
    ∙ leads_value rows from to differences are key))
    also

-- ---- and no fewer changes do
abbrev OfKey : Difference → Difference → Type 0
OfKey one other = other.0 ≡ one.0

-- a key is among some changes, or it is not
among : (key : List ℕ) (changes : List Difference) → ((one : Difference) × Contains changes one × (one.0 ≡ key))
    ⊎ ((one : Difference) → Contains changes one → one.0 ≢ key)
among key [] = inr (λ one m is. Contains-none {X = Difference} one m)
among key (one ∷ more) = elim (cases_Bool (bytes_eq one.0 key)) [
  | inl t ↦ inl (one, Contains-first {X = Difference} one more, (bytes_eq-Decides one.0 key).0 t)
  | inr f ↦ elim (among key more) [
    | inl there ↦ inl (there.0, Contains-rest {X = Difference} one there.0 more there.1, there.2)
    | inr none ↦ inr (λ other m is. elim (Contains-cons_cases {X = Difference} one other more m) [
      | inl same ↦ true≢false (sym ((bytes_eq-Decides one.0 key).1 (ap (λ (x : Difference). x.0) same ∙ is)) ∙ f)
      | inr there ↦ none other there is
    ])
  ]
]

pub differences-least : (rows : List Row) (from to : ℕ) (differences others : List Difference)
    (listing next : List Pair) → AreDifferences rows from to (λ key. Unit {0}) differences
    → IsListing rows from listing
    → IsListing rows to next → patched others listing ≡ next → length differences ≤ length others
differences-least rows from to differences others listing next are is also lead =
    let each : (one : Difference) → Contains differences one → Served OfKey others one =
    λ one m. elim (among one.0 others) [
      | inl there ↦ (there.0, there.1, there.2)
      | inr none ↦
          let at = (are.exact one.0 one.1).0 m in
          absurd (at.2 (sym (listing_value rows from listing is one.0)
          ∙ sym (value_stays one.0 others (value_in one.0 listing) none)
          ∙ sym (patched_value others listing one.0 is.ascending)
          ∙ ap (value_in one.0) lead
          ∙ listing_value rows to next also one.0 ∙ at.1))
    ] in
    let fit : sum_by (λ (one : Difference). 1) differences ≤ sum_by (λ (one : Difference). 1) others =
    served HaveOtherKeys OfKey (λ (one : Difference). 1) (λ (one : Difference). 1) (λ x y r. omega arith)
    (λ x z y apart first second. apart (sym first ∙ second)) differences others
    (keys_apart differences are.ascending) each in
    let few : sum_by (λ (one : Difference). 1) differences ≡ length differences = sum_by_one differences in
    let many : sum_by (λ (one : Difference). 1) others ≡ length others = sum_by_one others in
    omega arith

-- ---- the same differences of rows that answer alike at both stamps
pub differences-alike : (rows others : List Row) (from to : ℕ) (IsWanted : List ℕ → Type 0)
    (differences : List Difference)
    → ((key : List ℕ) → answer rows key from ≡ answer others key from)
    → ((key : List ℕ) → answer rows key to ≡ answer others key to)
    → AreDifferences rows from to IsWanted differences → AreDifferences others from to IsWanted differences
differences-alike rows others from to IsWanted differences first second are = record {
  ascending = are.ascending;
  exact = λ key value. (
    λ m.
        let at = (are.exact key value).0 m in
        (at.0, sym (second key) ∙ at.1, λ same. at.2 (first key ∙ same)),
    λ (wanted, is, apart).
        (are.exact key value).1 (wanted, second key ∙ is, λ same. apart (sym (first key) ∙ same)),
  );
}

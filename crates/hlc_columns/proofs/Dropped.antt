-- Rows of a column are dropped: what becomes of the sizes of the columns that have rows.
use Rattle.std.proofs.Common.{◌≡◌, ℕ, ◌+◌, ◌<◌, Bool, true, false, List, [], ◌∷◌, ◌++◌, refl, sym, ap, ap₂, lt-ltb}
use Rattle.std.proofs.Common.{ltb-true, true≢false, ◌∙◌, inl, inr, arith, length, get_or, set, subst, filter, ltb, All}
use Rattle.std.specs.List.{items_where_true, list_all}
use Rattle.std.proofs.lemmas.{Bool.cases_Bool, List.set-get_or, List.Elements.filter-append}
use Rattle.hlc_table_column.specs.Cells.{Cell}
use Rattle.hlc_table_index.specs.Entries.{entries_before, entries_from, with_value_in}
use Rattle.hlc_columns.specs.Table.{if_filled, key_at, cells_at}
use Rattle.hlc_columns.specs.Sizes.{sizes_of, filled_sizes, plus, minus, Fit, IsPart, Sizes}
use Rattle.hlc_columns.proofs.{Kept.is_filled, WalkLemmas.Entry, WalkLemmas.filter_all}
use Rattle.hlc_columns.proofs.KeptOf.{apart, is_part, minus_is, parted_own, key_there, cells_there, key_now, cells_now}
use Rattle.hlc_columns.proofs.KeptOf.{entries_now, filled_some}
use Rattle.hlc_columns.proofs.SizeLemmas.{equal, fit_less, length_kept, less_one}

-- a column among others, if it has rows
filled_among : (xs ys : List Entry) (e : Entry)
    → filter is_filled (xs ++ e ∷ ys) ≡ filter is_filled xs ++ (if_filled e ++ filter is_filled ys)
filled_among xs ys e =
    filter-append is_filled xs (e ∷ ys)
    ∙ ap (λ l. filter is_filled xs ++ l) (elim (cases_Bool (is_filled e)) [ inl t ↦ rw t refl | inr f ↦ rw f refl ])

nothing : (s : Sizes) → s ≡ plus s (sizes_of [])
nothing s = equal s (plus s (sizes_of [])) (omega arith) (omega arith) (omega arith) (omega arith)

-- and its part of the sizes
filled_apart : (xs ys : List Entry) (e : Entry)
    → sizes_of (xs ++ (if_filled e ++ ys)) ≡ plus (sizes_of (xs ++ ys)) (sizes_of (if_filled e))
filled_apart xs ys e = elim (cases_Bool (is_filled e)) [
  | inl t ↦ rw t (apart xs ys e)
  | inr f ↦ rw f (nothing (sizes_of (xs ++ ys)))
]

-- fewer rows of a column are a part of them
less : (key : List ℕ) (flags : List Bool) (cells : List Cell)
    → IsPart (sizes_of (if_filled (key, items_where_true flags cells))) (sizes_of (if_filled (key, cells)))
less key flags cells =
    let kept = items_where_true flags cells in
    elim (cases_Bool (ltb 0 (length kept))) [
      | inl t ↦
          let some = ltb-true 0 (length kept) t in
          rw (
            filled_some (key, kept) (λ none. omega arith),
            filled_some (key, cells) (λ none. omega (arith, length_kept flags cells)),
          ) (less_one key flags cells)
      | inr f ↦ rw f
          (record { rows = omega arith; keys = omega arith; key_bytes = omega arith; value_bytes = omega arith })
    ]

-- flagged rows of the column at a position are kept
module _ (ls : List (List Entry)) (at slot : ℕ) (inside : at < length ls) (lt : slot < length (get_or ls at []))
    (flags : List Bool) (sizes before : Sizes) (all : sizes ≡ filled_sizes ls)
    (own : before ≡ sizes_of (if_filled (key_at ls at slot, cells_at ls at slot))) where
  abbrev ahead : List Entry
  ahead = entries_before ls at slot

  abbrev behind : List Entry
  behind = entries_from ls at (slot + 1)

  abbrev others_there : Sizes
  others_there = sizes_of (filter is_filled ahead ++ filter is_filled behind)

  abbrev own_key : List ℕ
  own_key = key_at ls at slot

  abbrev own_kept : List Cell
  own_kept = items_where_true flags (cells_at ls at slot)

  parts : sizes ≡ plus others_there (sizes_of (if_filled (own_key, cells_at ls at slot)))
  parts =
      all ∙ ap (λ es. sizes_of (filter is_filled es)) (parted_own ls at slot inside lt)
      ∙ ap sizes_of (filled_among ahead behind (own_key, cells_at ls at slot))
      ∙ filled_apart (filter is_filled ahead) (filter is_filled behind) (own_key, cells_at ls at slot)

  pub dropped_part : IsPart before sizes
  dropped_part = is_part sizes others_there before (parts ∙ ap (plus others_there) (sym own))

  module _ (now : List (List Entry)) (after others : Sizes) (written : now ≡ with_value_in ls at slot own_kept)
      (left : after ≡ sizes_of (if_filled (key_at now at slot, cells_at now at slot)))
      (rest : others ≡ minus sizes before) where
    both_are : plus others after ≡ plus others_there (sizes_of (if_filled (own_key, own_kept)))
    both_are =
        ap₂ plus (rest ∙ minus_is sizes others_there before (parts ∙ ap (plus others_there) (sym own)))
        (left ∙ ap₂ (λ k cs. sizes_of (if_filled (k, cs))) (key_now ls at slot inside lt now own_kept written)
        (cells_now ls at slot inside lt now own_kept written))

    pub dropped_sizes : plus others after ≡ filled_sizes now
    dropped_sizes =
        both_are ∙ sym (filled_apart (filter is_filled ahead) (filter is_filled behind) (own_key, own_kept))
        ∙ ap sizes_of (sym (filled_among ahead behind (own_key, own_kept)))
        ∙ ap (λ es. sizes_of (filter is_filled es)) (sym (entries_now ls at slot inside lt now own_kept written))

    pub dropped_fit : Fit sizes → Fit (plus others after)
    dropped_fit fit =
        let few = less own_key flags (cells_at ls at slot) in
        subst Fit (sym both_are)
        (fit_less (plus others_there (sizes_of (if_filled (own_key, own_kept))))
        (plus others_there (sizes_of (if_filled (own_key, cells_at ls at slot))))
        (omega arith) (omega arith) (omega arith) (omega arith) (subst Fit parts fit))

-- a column is written with the rows that it has
pub same_value : (ls : List (List Entry)) (at slot : ℕ) → at < length ls → slot < length (get_or ls at [])
    → with_value_in ls at slot (cells_at ls at slot) ≡ ls
same_value ls at slot inside lt =
    ap₂ (λ k cs. set ls at (set (get_or ls at []) slot (k, cs))) (key_there ls at slot inside lt)
    (cells_there ls at slot inside lt) ∙ ap (set ls at) (set-get_or (get_or ls at []) slot ([], []))
    ∙ set-get_or ls at []

-- columns that all have rows
pub all_have : (es : List Entry) → All (λ e. 0 < length e.1) es → filter is_filled es ≡ es
all_have es filled =
    filter_all is_filled es (λ i d lt. lt-ltb 0 (length (get_or es i d).1) (filled i d lt))

-- if all flags are set, all rows are kept
pub all_set : (flags : List Bool) (cells : List Cell) → length flags ≡ length cells
    → list_all (λ flag. flag) flags ≡ true → items_where_true flags cells ≡ cells
all_set [] [] many all = refl
all_set (true ∷ flags) (c ∷ cells) many all = ap (λ l. c ∷ l) (all_set flags cells (omega arith) all)
all_set (false ∷ flags) (c ∷ cells) many all = absurd (true≢false (sym all))
all_set flags cells many all = absurd (omega arith)

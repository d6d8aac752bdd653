-- The versions of a key that were measured and put so far.
use Rattle.std.proofs.Common.{◌≡◌, ◌<◌, ◌≤◌, ◌+◌, ◌∙◌, ◌∷◌, ◌++◌, [], ℕ, List, sym, ap, subst, refl, length, arith}
use Rattle.std.proofs.Common.{length-append, drop, inl, inr}
use Rattle.std.proofs.lemmas.{List.append-nil, List.append_assoc, Grind.flat_map-append}
use Rattle.hlc_values.proofs.SortedLemmas.{same_members}
use Rattle.hlc_rows.specs.declared.row.Row.{Row}
use Rattle.hlc_table_column.specs.{Cells.Cell, Versions.IsNewer, Versions.AreVersions}
use Rattle.hlc_core.specs.StoreView.{StoreView}
use Rattle.hlc_wire.specs.Placing.{with_bytes}
use Rattle.hlc_range_calls.specs.Listing.{answer_bytes, narrowed, IsCopied}
use Rattle.hlc_range_calls.specs.{Scan.parts_bytes, Versions.version_bytes, Versions.AreRead}

-- a version takes 11 bytes, or 19 and its value
pub version_length : (version : Cell)
    → length (version_bytes version) ≡ 10 + length (answer_bytes version.value)
version_length version = omega arith

one_way : (x y : Cell) → IsNewer x y → IsNewer y x → ⊥
one_way x y (inl a) (inl b) = omega (arith, a, b)
one_way x y (inl a) (inr b) = let e = b.0 in omega (arith, a, e)
one_way x y (inr a) (inl b) = let e = a.0 in omega (arith, e, b)
one_way x y (inr a) (inr b) = let p = a.1 in let q = b.1 in omega (arith, p, q)

-- there is one list of them
pub one_versions : (rows : List Row) (key : List ℕ) (from to : ℕ) (versions others : List Cell)
    → AreVersions rows key from to versions → AreVersions rows key from to others → versions ≡ others
one_versions rows key from to versions others are also =
    same_members IsNewer one_way versions others are.newest_first also.newest_first
    (λ version. (
      λ m. (also.exact version).1 ((are.exact version).0 m),
      λ m. (are.exact version).1 ((also.exact version).0 m),
    ))

-- the versions before those that are left are measured
abbrev pub Measured : List Cell → List Cell → ℕ → ℕ → Type 0
Measured all left len many =
    (done : List Cell) × (all ≡ done ++ left) × (len ≡ narrowed (length (parts_bytes version_bytes done)))
    × (many ≡ narrowed (length done))

pub measured_more : (all left next : List Cell) (version : Cell) (len many more after again : ℕ)
    → Measured all left len many → left ≡ version ∷ next
    → more ≡ narrowed (10 + length (answer_bytes version.value)) → after ≡ narrowed (len + more)
    → again ≡ narrowed (many + 1) → Measured all next after again
measured_more all left next version len many more after again so is one sum count =
    let done = so.0 in
    let bytes : parts_bytes version_bytes (done ++ version ∷ [])
    ≡ parts_bytes version_bytes done ++ version_bytes version =
    flat_map-append version_bytes done (version ∷ [])
    ∙ ap (λ xs. parts_bytes version_bytes done ++ xs) (append-nil (version_bytes version)) in
    let long : length (parts_bytes version_bytes (done ++ version ∷ []))
    ≡ length (parts_bytes version_bytes done) + length (version_bytes version) =
    ap length bytes ∙ length-append (parts_bytes version_bytes done) (version_bytes version) in
    let each = version_length version in (
      done ++ version ∷ [],
      so.1 ∙ ap (λ (vs : List Cell). done ++ vs) is ∙ sym (append_assoc done (version ∷ []) next),
      omega (arith, long, each, sum, one, so.2),
      (let n = length-append done (version ∷ []) in omega (arith, n, count, so.3)),
    )

-- the versions fit, and their bytes are put; or they do not
pub put_whole : (versions others : List Cell) (total : ℕ) (old new : List ℕ) → versions ≡ others
    → total ≡ narrowed (length (parts_bytes version_bytes versions)) → total < 18446744073709551615
    → total ≤ length old → new ≡ with_bytes 0 (parts_bytes version_bytes others) old
    → IsCopied (parts_bytes version_bytes versions) old new
put_whole versions others total old new same is low fits put =
    let bytes : new ≡ parts_bytes version_bytes versions ++ drop (length (parts_bytes version_bytes versions)) old =
    put ∙ ap (λ (vs : List Cell). with_bytes 0 (parts_bytes version_bytes vs) old) (sym same)
    ∙ ap (λ (n : ℕ). parts_bytes version_bytes versions ++ drop n old) (omega arith) in
    (λ _. bytes, λ short. absurd (omega (arith, is, low, fits, short)))

pub room_for : (versions others : List Cell) (total : ℕ) (old : List ℕ) → versions ≡ others
    → total ≡ narrowed (length (parts_bytes version_bytes versions)) → total < 18446744073709551615
    → total ≤ length old → length (parts_bytes version_bytes others) ≤ length old
room_for versions others total old same is low fits =
    subst (λ (vs : List Cell). length (parts_bytes version_bytes vs) ≤ length old) same
    (omega (arith, is, low, fits))

pub put_none : (versions : List Cell) (total : ℕ) (old : List ℕ)
    → total ≡ narrowed (length (parts_bytes version_bytes versions)) → length old < 18446744073709551615
    → length old < total → IsCopied (parts_bytes version_bytes versions) old old
put_none versions total old is small short = (λ fits. absurd (omega (arith, is, small, fits, short)), λ _. refl)

pub read_are : (core : StoreView) (key : List ℕ) (above to low high : ℕ) (versions : List Cell) → low ≡ above
    → high ≡ to → AreRead core key low high versions → AreRead core key above to versions
read_are core key above to low high versions first second are =
    subst (λ n. AreRead core key n to versions) first (subst (λ n. AreRead core key low n versions) second are)

-- Which store has a key: stores have ranges of keys, or the keys of a hash.
use Rattle.std.specs.Prelude.{◌≡◌, ℕ, ◌+◌, ◌*◌, ◌%◌, ◌^◌, ◌<◌, ◌≤◌, List, [], ◌∷◌, length, get_or, if◌then◌else◌}
use Rattle.std.specs.Prelude.{bit_xor, All}
use Rattle.std.specs.{Ordering.is_lt, Ordering.nat_cmp, Cmp.Lexicographic.slice_cmp}
use Rattle.std.specs.declared.cmp.Ordering.TheVariants.{Less}
use Rattle.hlc_rows.specs.declared.write.Write.{Write}
use Rattle.hlc_routing.specs.declared.division.Kind.{Kind, TheVariants.Keys, TheVariants.Hash}
use Rattle.hlc_routing.specs.declared.division.TheConstants.{MAX_STORES, HASH_START, HASH_PRIME}

-- A division of the keys: by ascending boundary keys, one less than stores; or by a hash, over a number of stores.
pub data DivisionView : Type 0 where
  ByKeys : List (List ℕ) → DivisionView
  ByHash : ℕ → DivisionView

abbrev pub division_of : Kind → DivisionView
division_of (Keys boundaries) = ByKeys boundaries
division_of (Hash stores) = ByHash stores

-- the number of stores
abbrev pub stores_of : DivisionView → ℕ
stores_of (ByKeys boundaries) = length boundaries + 1
stores_of (ByHash stores) = stores

-- the store of a key by boundaries: one boundary after another is at or below the key, up to the first above it
abbrev pub store_between : List (List ℕ) → List ℕ → ℕ
store_between [] key = 0
store_between (boundary ∷ boundaries) key =
    if is_lt (slice_cmp nat_cmp key boundary) then 0 else store_between boundaries key + 1

-- the hash of some bytes after those before: FNV-1a of 64 bits
abbrev pub hash_after : ℕ → List ℕ → ℕ
hash_after hash [] = hash
hash_after hash (byte ∷ bytes) = hash_after (bit_xor hash byte * HASH_PRIME % 2 ^ 64) bytes

-- the store of a key
abbrev pub store_of : DivisionView → List ℕ → ℕ
store_of (ByKeys boundaries) key = store_between boundaries key
store_of (ByHash stores) key = hash_after HASH_START key % stores

-- each of some writes has its key in this store
abbrev pub AreOfStore : DivisionView → ℕ → List Write → Type 0
AreOfStore division s writes = All (λ write. store_of division write.key ≡ s) writes

-- each boundary is below the next
abbrev pub AreAscending : List (List ℕ) → Type 0
AreAscending boundaries =
    (i : ℕ) (d : List ℕ) → i + 1 < length boundaries
    → slice_cmp nat_cmp (get_or boundaries i d) (get_or boundaries (i + 1) d) ≡ Less

-- there are 1 to 1,024 stores
abbrev pub IsDivision : DivisionView → Type 0
IsDivision division = (0 < stores_of division) × (stores_of division ≤ MAX_STORES)

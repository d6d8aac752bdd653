-- What is written to a buffer part by part is written to it at once.
use Rattle.std.proofs.Common.{◌≡◌, ℕ, ◌+◌, ◌≤◌, ◌∙◌, sym, ap, ap₂, refl, List, [], ◌∷◌, ◌++◌, take, drop, length, arith}
use Rattle.std.proofs.Common.{length-append, Option, Some, None, IsSome, append_assoc, append-nil, length-take}
use Rattle.std.proofs.Common.{length-drop, take_all, take_at, drop-drop}
use Rattle.std.proofs.{lemmas.List.take-append-le, lemmas.List.nil_from_length, Math.Seq.drop-append-add}
use Rattle.hlc_node.specs.declared.item.Item.{Item}
use Rattle.hlc_wire.specs.Spelling.{numbers_bytes, body_bytes, item_bytes}
use Rattle.hlc_wire.specs.Placing.{with_bytes, PutsFront}

-- bytes that are put after others are put together with them
with_both : (a : ℕ) (u v xs : List ℕ) → a + (length u + length v) ≤ length xs
    → with_bytes (a + length u) v (with_bytes a u xs) ≡ with_bytes a (u ++ v) xs
with_both a u v xs fits =
    let front : length (take a xs) ≡ a = omega (arith, length-take a xs) in
    let len : length (take a xs ++ u) ≡ a + length u = omega (arith, length-append (take a xs) u, front) in
    let mid : with_bytes a u xs ≡ (take a xs ++ u) ++ drop (a + length u) xs =
    sym (append_assoc (take a xs) u (drop (a + length u) xs)) in
    let first : take (a + length u) (with_bytes a u xs) ≡ take a xs ++ u =
    ap (λ (ys : List ℕ). take (a + length u) ys) mid
    ∙ take-append-le (a + length u) (take a xs ++ u) (drop (a + length u) xs) (omega (arith, len))
    ∙ take_all (a + length u) (take a xs ++ u) (omega (arith, len)) in
    let rest : drop (a + length u + length v) (with_bytes a u xs) ≡ drop (a + length (u ++ v)) xs =
    ap (λ (ys : List ℕ). drop (a + length u + length v) ys) mid
    ∙ ap (λ (n : ℕ). drop (n + length v) ((take a xs ++ u) ++ drop (a + length u) xs)) (sym len)
    ∙ drop-append-add (take a xs ++ u) (drop (a + length u) xs) (length v)
    ∙ drop-drop (length v) (a + length u) xs
    ∙ ap (λ (n : ℕ). drop n xs) (omega (arith, length-append u v)) in
    ap₂ (λ (x y : List ℕ). x ++ (v ++ y)) first rest
    ∙ append_assoc (take a xs) u (v ++ drop (a + length (u ++ v)) xs)
    ∙ ap (λ (z : List ℕ). take a xs ++ z) (sym (append_assoc u v (drop (a + length (u ++ v)) xs)))

-- the same by the buffers
pub put_both : (a b : ℕ) (u v old between new : List ℕ) → between ≡ with_bytes a u old
    → b ≡ a + length u → new ≡ with_bytes b v between → a + length (u ++ v) ≤ length old
    → new ≡ with_bytes a (u ++ v) old
put_both a b u v old between new one at two fits =
    two ∙ ap₂ (λ (n : ℕ) (ys : List ℕ). with_bytes n v ys) at one
    ∙ with_both a u v old (omega (arith, fits, length-append u v))

-- three parts are put, one after another
pub put_three : (a b d : ℕ) (u v z old one two new : List ℕ) → one ≡ with_bytes a u old → b ≡ a + length u
    → two ≡ with_bytes b v one → d ≡ b + length v → new ≡ with_bytes d z two
    → a + length (u ++ (v ++ z)) ≤ length old → new ≡ with_bytes a (u ++ (v ++ z)) old
put_three a b d u v z old one two new first at second then third fits =
    let all = length-append u (v ++ z) in
    let tail = length-append v z in
    let front = length-append u v in
    let whole = length-append (u ++ v) z in
    put_both a d (u ++ v) z old two new
    (put_both a b u v old one two first at second (omega (arith, fits, all, tail, front)))
    (omega (arith, at, then, front)) third (omega (arith, fits, all, tail, front, whole))
    ∙ ap (λ (bs : List ℕ). with_bytes a bs old) (append_assoc u v z)

-- what is put to the front of a buffer is written there
pub at_front : (bytes : List ℕ) (size : ℕ) (old new : List ℕ) → new ≡ with_bytes 0 bytes old → size ≡ length bytes
    → size ≤ length old → PutsFront bytes (Some size) old new
at_front bytes size old new put is fits =
    (is, fits, put ∙ ap (λ (n : ℕ). bytes ++ drop n old) (omega arith))

-- the version, the numbers and the body of an item, one after another
pub item_put : (size b d : ℕ) (item : Item) (old one two new : List ℕ) → one ≡ with_bytes 0 (1 ∷ []) old → b ≡ 0 + 1
    → two ≡ with_bytes b (numbers_bytes item) one → d ≡ b + length (numbers_bytes item)
    → new ≡ with_bytes d (body_bytes item.body) two → size ≡ length (item_bytes item) → size ≤ length old
    → PutsFront (item_bytes item) (Some size) old new
item_put size b d item old one two new first at second then third is fits =
    at_front (item_bytes item) size old new
    (put_three 0 b d (1 ∷ []) (numbers_bytes item) (body_bytes item.body) old one two new first at second then third
    (omega (arith, is, fits))) is fits

-- bytes that fill a buffer are written
pub puts_all : (bytes : List ℕ) (put : Option ℕ) (old new : List ℕ) → length old ≡ length bytes
    → PutsFront bytes put old new → IsSome put
puts_all bytes (Some size) old new len is = refl
puts_all bytes None old new len (short, same) = absurd (omega (arith, len, short))

-- and are all of it
pub is_all : (bytes : List ℕ) (put : Option ℕ) (old new : List ℕ) → length old ≡ length bytes
    → PutsFront bytes put old new → new ≡ bytes
is_all bytes (Some size) old new len (is, fits, put) =
    put ∙ ap (λ (rest : List ℕ). bytes ++ rest)
    (nil_from_length (drop (length bytes) old) (omega (arith, length-drop (length bytes) old, len)))
    ∙ append-nil bytes
is_all bytes None old new len (short, same) = absurd (omega (arith, len, short))

-- the same in a vector
pub filled : (bytes : List ℕ) (put : Option ℕ) (old new after : List ℕ) (len : ℕ) → length old ≡ len
    → len ≡ length bytes → PutsFront bytes put old new → take len (new ++ after) ≡ bytes
filled bytes put old new after len same is puts =
    ap (λ (front : List ℕ). take len (front ++ after)) (is_all bytes put old new (same ∙ is) puts)
    ∙ take_at bytes after len (sym is)

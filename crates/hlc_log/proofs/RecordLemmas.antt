-- The result of reading some bytes has that encoding, and an encoding is read back.
use Rattle.std.proofs.Common.{◌≡◌, ℕ, ◌+◌, ◌<◌, ◌≤◌, zero, suc, List, [], ◌∷◌, ◌++◌, length, Some, Ok, refl, sym, ap}
use Rattle.std.proofs.Common.{subst, ◌∙◌, arith, inl, inr}
use Rattle.std.{proofs.lemmas.List.append_assoc, specs.Int.w16, specs.Int.w64, specs.Int.to_be_bytes}
use Rattle.hlc_node.specs.{Items.an_item, Items.IsShort, declared.item.Item.Item as AnItem, declared.item.Body.Body}
use Rattle.hlc_node.specs.declared.item.Body.TheVariants.{Write, Batch, Report, Retire}
use Rattle.hlc_wire.specs.Reading.{◌>>=◌, number_at, item_at}
use Rattle.hlc_wire.specs.{Spelling.item_bytes, Spelling.ItemFits, Placing.with_bytes, Placing.PutsFront}
use Rattle.hlc_wire.proofs.FieldLemmas.{IsBytes, IsBytes-rest, bind_ok, ok_is, Takes, Takes-then, Takes-cons, IsReader}
use Rattle.hlc_wire.proofs.FieldLemmas.{number_reader, wide16, wide64}
use Rattle.hlc_wire.proofs.PlacingLemmas.{put_both, put_three, at_front}
use Rattle.hlc_wire.proofs.ItemLemmas.{item_reader}
use Rattle.hlc_log.specs.declared.record.Record.{Record, TheVariants.Item, TheVariants.Join, TheVariants.Threshold}
use Rattle.hlc_log.specs.Record.{record_bytes, record_at, item_record_at, join_at, threshold_at, RecordFits}
use Rattle.hlc_log.specs.Record.{IsShortRecord, StartsWithWrite}

two : IsReader (number_at w16) (to_be_bytes w16) (λ n. n < 65536)
two = number_reader w16 65536 wide16

eight : IsReader (number_at w64) (to_be_bytes w64) (λ n. n < 18446744073709551616)
eight = number_reader w64 18446744073709551616 wide64

join_takes : (bytes : List ℕ) (x : Record × List ℕ) → IsBytes bytes → join_at bytes ≡ Ok x
    → Takes (2 ∷ bytes) (record_bytes x.0) x.1 × RecordFits x.0
unfolding join_at
join_takes bytes x fits e =
    let a = bind_ok (number_at w16 bytes)
    (λ node. number_at w64 node.1 >>= λ start. Ok (Join node.0 start.0, start.1)) x e in
    let b = bind_ok (number_at w64 a.0.1) (λ start. Ok (Join a.0.0 start.0, start.1)) x a.2 in
    let t = two.takes bytes a.0 fits a.1 in
    let u = eight.takes a.0.1 b.0 t.0.rest_fits b.1 in
    subst (λ (y : Record × List ℕ). Takes (2 ∷ bytes) (record_bytes y.0) y.1 × RecordFits y.0)
    (ok_is (Join a.0.0 b.0.0, b.0.1) x b.2) (
      Takes-cons 2 bytes (to_be_bytes w16 a.0.0 ++ to_be_bytes w64 b.0.0) b.0.1
          (Takes-then bytes (to_be_bytes w16 a.0.0) a.0.1 (to_be_bytes w64 b.0.0) b.0.1 t.0 u.0),
      (t.1, u.1),
    )

join_again : (node start : ℕ) (rest : List ℕ) → RecordFits (Join node start)
    → join_at ((to_be_bytes w16 node ++ to_be_bytes w64 start) ++ rest) ≡ Ok (Join node start, rest)
unfolding join_at
join_again node start rest fits =
    let a : List ℕ = to_be_bytes w16 node in
    let b : List ℕ = to_be_bytes w64 start in
    ap join_at (append_assoc a b rest) ∙ rw (two.again node (b ++ rest) fits.0, eight.again start rest fits.1) refl

threshold_takes : (bytes : List ℕ) (x : Record × List ℕ) → IsBytes bytes → threshold_at bytes ≡ Ok x
    → Takes (3 ∷ bytes) (record_bytes x.0) x.1 × RecordFits x.0
unfolding threshold_at
threshold_takes bytes x fits e =
    let a = bind_ok (number_at w64 bytes) (λ at. Ok (Threshold at.0, at.1)) x e in
    let t = eight.takes bytes a.0 fits a.1 in
    subst (λ (y : Record × List ℕ). Takes (3 ∷ bytes) (record_bytes y.0) y.1 × RecordFits y.0)
    (ok_is (Threshold a.0.0, a.0.1) x a.2)
    (Takes-cons 3 bytes (to_be_bytes w64 a.0.0) a.0.1 t.0, t.1)

threshold_again : (at : ℕ) (rest : List ℕ) → RecordFits (Threshold at)
    → threshold_at (to_be_bytes w64 at ++ rest) ≡ Ok (Threshold at, rest)
unfolding threshold_at
threshold_again at rest fits = rw (eight.again at rest fits) refl

item_takes : (bytes : List ℕ) (x : Record × List ℕ) → IsBytes bytes → item_record_at bytes ≡ Ok x
    → Takes bytes (record_bytes x.0) x.1 × RecordFits x.0
unfolding item_record_at
item_takes bytes x fits e =
    let a = bind_ok (item_at bytes) (λ item. Ok (Item item.0, item.1)) x e in
    let t = item_reader.takes bytes a.0 fits a.1 in
    subst (λ (y : Record × List ℕ). Takes bytes (record_bytes y.0) y.1 × RecordFits y.0)
    (ok_is (Item a.0.0, a.0.1) x a.2) t

item_again : (item : AnItem) (rest : List ℕ) → ItemFits item
    → item_record_at (item_bytes item ++ rest) ≡ Ok (Item item, rest)
unfolding item_record_at
item_again item rest fits = rw (item_reader.again item rest fits) refl

record_takes : (bytes : List ℕ) (x : Record × List ℕ) → IsBytes bytes → record_at bytes ≡ Ok x
    → Takes bytes (record_bytes x.0) x.1 × RecordFits x.0
unfolding record_at
record_takes [] x fits e = absurd cc
record_takes (zero ∷ bytes) x fits e = absurd cc
record_takes (suc zero ∷ bytes) x fits e = item_takes (1 ∷ bytes) x fits e
record_takes (suc (suc zero) ∷ bytes) x fits e = join_takes bytes x (IsBytes-rest 2 bytes fits) e
record_takes (suc (suc (suc zero)) ∷ bytes) x fits e = threshold_takes bytes x (IsBytes-rest 3 bytes fits) e
record_takes (suc (suc (suc (suc b))) ∷ bytes) x fits e = absurd cc

record_again : (entry : Record) (rest : List ℕ) → RecordFits entry
    → record_at (record_bytes entry ++ rest) ≡ Ok (entry, rest)
unfolding record_at
record_again (Item item) rest fits = item_again item rest fits
record_again (Join node start) rest fits = join_again node start rest fits
record_again (Threshold at) rest fits = threshold_again at rest fits

pub record_reader : IsReader record_at record_bytes RecordFits
record_reader = record { takes = record_takes; again = record_again }

-- ---- copies

kind_of : (node number stamp : ℕ) (body : Body) (rest : List ℕ) → (IsShort body → ⊥)
    → StartsWithWrite (item_bytes (an_item node number stamp body) ++ rest)
kind_of node number stamp (Write key value) rest long = record { item = refl; kind = inl refl }
kind_of node number stamp (Batch writes) rest long = record { item = refl; kind = inr refl }
kind_of node number stamp Report rest long = absurd (long tt)
kind_of node number stamp Retire rest long = absurd (long tt)

write_of : (entry : Record) (rest : List ℕ) → (IsShortRecord entry → ⊥)
    → StartsWithWrite (record_bytes entry ++ rest)
write_of (Item item) rest long = kind_of item.node item.number item.stamp item.body rest long
write_of (Join node start) rest long = absurd (long tt)
write_of (Threshold at) rest long = absurd (long tt)

-- a record whose copy may need memory is a write or a batch
pub write_at : (bytes rest : List ℕ) (entry : Record) → IsBytes bytes → record_at bytes ≡ Ok (entry, rest)
    → (IsShortRecord entry → ⊥) → StartsWithWrite bytes
write_at bytes rest entry fits read long =
    subst StartsWithWrite (sym (record_reader.takes bytes (entry, rest) fits read).0.parts) (write_of entry rest long)

-- ---- writing

-- the first byte, the node and the start of a join, one after another
pub join_put : (end b d node start : ℕ) (old one two new : List ℕ) → one ≡ with_bytes 0 (2 ∷ []) old → b ≡ 0 + 1
    → two ≡ with_bytes b (to_be_bytes w16 node) one → d ≡ b + 2 → new ≡ with_bytes d (to_be_bytes w64 start) two
    → end ≡ d + 8 → 11 ≤ length old → PutsFront (record_bytes (Join node start)) (Some end) old new
join_put end b d node start old one two new first at second then third is fits =
    at_front (record_bytes (Join node start)) end old new
    (put_three 0 b d (2 ∷ []) (to_be_bytes w16 node) (to_be_bytes w64 start) old one two new first at second then third
    (omega (arith, fits))) (omega (arith, at, then, is)) (omega (arith, at, then, is, fits))

-- the first byte and the stamp of a threshold
pub threshold_put : (end b stamp : ℕ) (old one new : List ℕ) → one ≡ with_bytes 0 (3 ∷ []) old → b ≡ 0 + 1
    → new ≡ with_bytes b (to_be_bytes w64 stamp) one → end ≡ b + 8 → 9 ≤ length old
    → PutsFront (record_bytes (Threshold stamp)) (Some end) old new
threshold_put end b stamp old one new first at second is fits =
    at_front (record_bytes (Threshold stamp)) end old new
    (put_both 0 b (3 ∷ []) (to_be_bytes w64 stamp) old one new first at second (omega (arith, fits)))
    (omega (arith, at, is)) (omega (arith, at, is, fits))

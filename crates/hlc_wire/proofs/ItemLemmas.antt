-- An item that is read is the item that was written, and what was written is read again; so are messages.
use Rattle.std.proofs.Common.{◌≡◌, ℕ, zero, suc, ◌+◌, ◌<◌, ◌≤◌, List, [], ◌∷◌, ◌++◌, length, Some, None, Result, Ok}
use Rattle.std.proofs.Common.{Err, refl, sym, ap, subst, ◌∙◌, append_assoc, arith, length-append}
use Rattle.std.specs.{Prelude.IfOk, Prelude.IsOk, Int.w16, Int.w64, Int.to_be_bytes}
use Rattle.hlc_node.specs.Items.{an_item, body_refusal}
use Rattle.hlc_node.specs.declared.item.{Item.Item, Body.Body, Message.Message}
use Rattle.hlc_node.specs.declared.item.Body.TheVariants.{Write, Batch, Report, Retire}
use Rattle.hlc_wire.specs.declared.fault.WireFault.{WireFault, TheVariants.Version, TheVariants.Kind}
use Rattle.hlc_wire.specs.declared.fault.DecodeError.{DecodeError}
use Rattle.hlc_wire.specs.Spelling.{key_bytes, value_bytes, body_bytes, item_bytes, message_bytes, BodyFits, ItemFits}
use Rattle.hlc_wire.specs.Spelling.{MessageFits, most_bytes}
use Rattle.hlc_wire.proofs.BatchLemmas.{batch_field, batch_fits, write_fits, writes_length}
use Rattle.hlc_wire.specs.Reading.{Gives, Reads, body_at, item_rest_at, item_at, message_rest_at, message_at, whole}
use Rattle.hlc_wire.proofs.FieldLemmas.{IsBytes, done, IsReader, whole_takes, IsField, alone, nothing, last, field, via}
use Rattle.hlc_wire.proofs.FieldLemmas.{IsCase, a_case, no_case, choice, two, eight, key_field, value_field}

body_each : (b : ℕ) → IsCase body_at body_bytes BodyFits b
unfolding body_at
body_each zero = a_case (field _ key_field (λ key. last (Write key) value_field)) (λ t few f. (f, refl))
body_each (suc zero) = a_case (nothing Report) (λ t few f. (tt, refl))
body_each (suc (suc zero)) = a_case (nothing Retire) (λ t few f. (tt, refl))
body_each (suc (suc (suc zero))) = a_case (last Batch batch_field) (λ t few f. (f, refl))
body_each (suc (suc (suc (suc b)))) = no_case Kind (λ rest. refl)

body_again : (body : Body) (rest : List ℕ) → BodyFits body → body_at (body_bytes body ++ rest) ≡ Ok (body, rest)
unfolding body_at
body_again Report rest h = refl
body_again Retire rest h = refl
body_again (Batch writes) rest h = rw (batch_field.reads.again writes rest h) refl
body_again (Write key value) rest h =
    ap (λ (bs : List ℕ). body_at (0 ∷ bs)) (append_assoc (key_bytes key) (value_bytes value) rest)
    ∙ rw (key_field.reads.again key (value_bytes value ++ rest) h.0, value_field.reads.again value rest h.1) refl

pub body_field : IsField body_at body_bytes BodyFits
unfolding body_at
body_field = choice refl body_each body_again

-- a body that is not refused has an encoding
pub body_fits : (body : Body) → body_refusal body ≡ None → BodyFits body
body_fits (Write key value) h = write_fits key value h
body_fits (Batch writes) h = batch_fits writes h
body_fits Report h = tt
body_fits Retire h = tt

-- an item after its version
abbrev item_rest : Item → List ℕ
item_rest item =
    to_be_bytes w16 item.node ++ (to_be_bytes w64 item.number ++ (to_be_bytes w64 item.stamp ++ body_bytes item.body))

item_rest_field : IsField item_rest_at item_rest ItemFits
unfolding item_rest_at
item_rest_field =
    via
    (field _ two (λ node. field _ eight (λ number. field _ eight (λ stamp.
    last (an_item node number stamp) body_field))))
    (λ t f. (record { node = f.0; number = f.1.0; stamp = f.1.1.0; body = f.1.1.1 }, refl))
    (λ i f. ((i.node, (i.number, (i.stamp, i.body))), (f.node, (f.number, (f.stamp, f.body))), refl))

item_each : (b : ℕ) → IsCase item_at item_bytes ItemFits b
unfolding item_at
item_each zero = no_case Version (λ rest. refl)
item_each (suc zero) = a_case (alone item_rest_field) (λ t few f. (f, refl))
item_each (suc (suc b)) = no_case Version (λ rest. refl)

pub item_field : IsField item_at item_bytes ItemFits
unfolding item_at
item_field = choice refl item_each item_rest_field.reads.again

pub item_reader : IsReader item_at item_bytes ItemFits
item_reader = item_field.reads

-- messages
abbrev message_rest : Message → List ℕ
message_rest message = to_be_bytes w16 message.from ++ to_be_bytes w64 message.stamp

abbrev pub a_message : ℕ → ℕ → Message
a_message from stamp = record { from = from; stamp = stamp }

message_rest_field : IsField message_rest_at message_rest MessageFits
unfolding message_rest_at
message_rest_field =
    via (field _ two (λ from. last (a_message from) eight)) (λ t f. (record { node = f.0; stamp = f.1 }, refl))
    (λ m f. ((m.from, m.stamp), (f.node, f.stamp), refl))

message_each : (b : ℕ) → IsCase message_at message_bytes MessageFits b
unfolding message_at
message_each zero = no_case Version (λ rest. refl)
message_each (suc zero) = a_case (alone message_rest_field) (λ t few f. (f, refl))
message_each (suc (suc b)) = no_case Version (λ rest. refl)

pub message_field : IsField message_at message_bytes MessageFits
unfolding message_at
message_field = choice refl message_each message_rest_field.reads.again

-- what was read from the front is read of all the bytes, if none follows
pub whole_is_ok : {A : Type 0} (read : Result (A × List ℕ) WireFault) (x : A × List ℕ) → read ≡ Ok x → x.1 ≡ []
    → IsOk (whole read)
whole_is_ok read x is none =
    subst (λ r. IsOk (whole r)) (sym is)
    (subst (λ (rest : List ℕ). IsOk (whole (done (x.0, rest)))) (sym none) refl)

-- a result that was returned has that encoding
pub is_found : {A : Type 0} (read : List ℕ → Result (A × List ℕ) WireFault) (spell : A → List ℕ) (Fits : A → Type 0)
    → IsReader read spell Fits → (bytes : List ℕ) (r : Result A DecodeError) → IsBytes bytes
    → Gives (λ (a : A). a) r (whole (read bytes)) → IfOk r (λ a. Fits a × (bytes ≡ spell a))
is_found read spell Fits is bytes (Ok a) fits found_it = whole_takes read spell Fits is bytes a fits found_it
is_found read spell Fits is bytes (Err e) fits found_it = tt

-- the same, where no memory is needed
pub is_read : {X A : Type 0} (view : X → A) (read : List ℕ → Result (A × List ℕ) WireFault) (spell : A → List ℕ)
    (Fits : A → Type 0) → IsReader read spell Fits → (bytes : List ℕ) (r : Result X WireFault) → IsBytes bytes
    → Reads view r (whole (read bytes)) → IfOk r (λ x. Fits (view x) × (bytes ≡ spell (view x)))
is_read view read spell Fits is bytes (Ok x) fits found_it = whole_takes read spell Fits is bytes (view x) fits found_it
is_read view read spell Fits is bytes (Err fault) fits found_it = tt

-- the version and the numbers of a message, one after the other
pub message_written : (old one both new : List ℕ) (message : Message) → one ≡ old ++ 1 ∷ []
    → both ≡ one ++ to_be_bytes w16 message.from → new ≡ both ++ to_be_bytes w64 message.stamp
    → new ≡ old ++ message_bytes message
message_written old one both new message first second third =
    let a : List ℕ = to_be_bytes w16 message.from in
    let b : List ℕ = to_be_bytes w64 message.stamp in
    third ∙ ap (λ (x : List ℕ). x ++ b) (second ∙ ap (λ (x : List ℕ). x ++ a) first)
    ∙ append_assoc (old ++ 1 ∷ []) a b ∙ append_assoc old (1 ∷ []) (a ++ b)

-- ---- the number of bytes

body_length : (body : Body) → BodyFits body → length (body_bytes body) + 19 ≤ most_bytes body
body_length Report fits = omega arith
body_length Retire fits = omega arith
body_length (Batch writes) fits =
    omega (arith, fits.1, writes_length writes fits.2)
body_length (Write key None) fits =
    let k : length key < 256 = fits.0.1 in
    let e : length (key_bytes key ++ value_bytes None) ≡ length (key_bytes key) + 1 =
    length-append (key_bytes key) (value_bytes None) in
    omega arith
body_length (Write key (Some value)) fits =
    let k : length key < 256 = fits.0.1 in
    let v : length value < 65536 = fits.1 in
    let e : length (key_bytes key ++ value_bytes (Some value))
    ≡ length (key_bytes key) + length (value_bytes (Some value)) =
    length-append (key_bytes key) (value_bytes (Some value)) in
    let f : length (to_be_bytes w16 (length value) ++ value) ≡ 2 + length value =
    length-append (to_be_bytes w16 (length value)) value in
    omega arith

-- an item that fits has at most 65,814 bytes, and one of a batch at most 16,843,285
pub item_length : (item : Item) → ItemFits item → length (item_bytes item) ≤ most_bytes item.body
item_length item fits =
    let d : length (body_bytes item.body) + 19 ≤ most_bytes item.body = body_length item.body fits.body in
    let rest : List ℕ = to_be_bytes w64 item.stamp ++ body_bytes item.body in
    omega arith

-- a message has 11 bytes
pub message_length : (message : Message) → length (message_bytes message) ≡ 11
message_length message = refl

-- A line is the line of one event: it is split into the words from which it was built, the first word determines the
-- kind of event, and each other word spells one value.
use Rattle.std.proofs.Common.{◌≡◌, ℕ, ◌+◌, ◌*◌, ◌<◌, ◌^◌, ◌∙◌, sym, ap, refl, List, [], ◌∷◌, get_or, length, arith, eqb}
use Rattle.std.specs.{Prelude.decimal, Prelude.codes, List.slice_split, List.AllByRecursion}
use Rattle.std.proofs.lemmas.Fmt.{decimal_injective}
use Rattle.hlc_clock.specs.Stamp.{stamp_text}
use Rattle.hlc_text.specs.{Text.bytes_token, Lines.spaced}
use Rattle.hlc_text.proofs.TokenLemmas.{IsWord, number_is_word, stamp_is_word, bytes_are_word, split_words, no_stamp}
use Rattle.hlc_text.proofs.TokenLemmas.{one_stamp}
use Rattle.hlc_text.proofs.SpellingLemmas.{one_token}
use Rattle.hlc_world_event.specs.Events.{Event}
use Rattle.hlc_world_event.specs.declared.event.Event.TheVariants.{Write, Delete, Report, Retire, Join, Send, Receive}
use Rattle.hlc_world_event.specs.declared.event.Event.TheVariants.{Observe, Deliver, OpenAt, OpenFloor, Read}
use Rattle.hlc_world_event.specs.declared.event.Event.TheVariants.{List as ListAll, Close, Floor, Vacuum, Rows}
use Rattle.hlc_line.specs.Line.{event_words, event_line, HasLine, header_words, header_line, HasHeader, OneEvent}

node_is_word : (node : ℕ) → node < 2 ^ 16 → IsWord (decimal node)
node_is_word node small = number_is_word node (omega arith)

-- a verb and the words after it are words
AreWords : List (List ℕ) → Type 0
AreWords [] = ⊥
AreWords (verb ∷ words) = AllByRecursion IsWord (verb ∷ words)

are_words : (event : Event) → HasLine event → AreWords (event_words event)
unfolding AreWords
are_words (Write node reading key value) has =
    (refl, (node_is_word node has.0, (number_is_word reading has.1, (bytes_are_word key, (bytes_are_word value, tt)))))
are_words (Delete node reading key) has =
    (refl, (node_is_word node has.0, (number_is_word reading has.1, (bytes_are_word key, tt))))
are_words (Report node reading) has = (refl, (node_is_word node has.0, (number_is_word reading has.1, tt)))
are_words (Retire node reading) has = (refl, (node_is_word node has.0, (number_is_word reading has.1, tt)))
are_words Join has = (refl, tt)
are_words (Send node reading) has = (refl, (node_is_word node has.0, (number_is_word reading has.1, tt)))
are_words (Receive node reading message) has =
    (refl, (node_is_word node has.0, (number_is_word reading has.1, (number_is_word message has.2, tt))))
are_words (Deliver node number) has = (refl, (node_is_word node has.0, (number_is_word number has.1, tt)))
are_words (Observe node reading id) has =
    (refl, (node_is_word node has.0, (number_is_word reading has.1, (number_is_word id has.2, tt))))
are_words (OpenAt stamp) has = (refl, (stamp_is_word stamp has, tt))
are_words OpenFloor has = (refl, (refl, tt))
are_words (Read id key) has = (refl, (number_is_word id has.0, (bytes_are_word key, tt)))
are_words (ListAll id) has = (refl, (number_is_word id has, tt))
are_words (Close id) has = (refl, (number_is_word id has, tt))
are_words Floor has = (refl, tt)
are_words Vacuum has = (refl, tt)
are_words Rows has = (refl, tt)

split_again : (words : List (List ℕ)) → AreWords words → slice_split (λ b. eqb b 32) (spaced words) ≡ words
unfolding AreWords
split_again [] are = absurd are
split_again (verb ∷ words) are = split_words verb words are

-- the words of an event's line are the event's words
pub words_of_line : (event : Event) → HasLine event
    → slice_split (λ b. eqb b 32) (event_line event) ≡ event_words event
words_of_line event has = split_again (event_words event) (are_words event has)

-- the words of a header are the header's words
pub words_of_header : (nodes : ℕ) → HasHeader nodes
    → slice_split (λ b. eqb b 32) (header_line nodes) ≡ header_words nodes
words_of_header nodes has =
    split_words (codes "nodes") (decimal nodes ∷ []) (refl, (number_is_word nodes (omega arith), tt))

-- a number computed from the first word, which differs between any two kinds of events
abbrev mark : List (List ℕ) → ℕ
mark [] = 0
mark (verb ∷ words) = get_or verb 0 0 + 256 * get_or verb 2 0 + 65536 * length verb

-- two words that spell a node and a number spell no others
same_two : {verb : List ℕ} {words words2 : List (List ℕ)} (node node2 number number2 : ℕ)
    → (node < 2 ^ 16) × (number < 2 ^ 64) → (node2 < 2 ^ 16) × (number2 < 2 ^ 64)
    → verb ∷ decimal node ∷ decimal number ∷ words ≡ verb ∷ decimal node2 ∷ decimal number2 ∷ words2
    → (node ≡ node2) × (number ≡ number2)
same_two {verb} {words} {words2} node node2 number number2 has also e =
    let e0 : decimal node ≡ decimal node2 = cc in
    let e1 : decimal number ≡ decimal number2 = cc in
    (decimal_injective node node2 (omega arith) (omega arith) e0, decimal_injective number number2 has.1 also.1 e1)

-- a stamp has a full stop, and the word `floor` has none
not_floor : (stamp : ℕ) → stamp < 2 ^ 64 → stamp_text stamp ≡ codes "floor" → ⊥
not_floor stamp has is = no_stamp (codes "floor") stamp refl has (sym is)

same_words : (event other : Event) → HasLine event → HasLine other → event_words event ≡ event_words other
    → event ≡ other
same_words (Write node reading key value) (Write node2 reading2 key2 value2) has also same =
    (let s = same_two node node2 reading reading2 (has.0, has.1) (also.0, also.1) same in
    let e : bytes_token key ≡ bytes_token key2 = cc in
    let e2 : bytes_token value ≡ bytes_token value2 = cc in
    let t = one_token key key2 has.2 also.2 e in
    let u = one_token value value2 has.3 also.3 e2 in λ i. Write (s.0 i) (s.1 i) (t i) (u i))
same_words (Delete node reading key) (Delete node2 reading2 key2) has also same =
    (let s = same_two node node2 reading reading2 (has.0, has.1) (also.0, also.1) same in
    let e : bytes_token key ≡ bytes_token key2 = cc in
    let t = one_token key key2 has.2 also.2 e in λ i. Delete (s.0 i) (s.1 i) (t i))
same_words (Report node reading) (Report node2 reading2) has also same =
    (let s = same_two node node2 reading reading2 has also same in λ i. Report (s.0 i) (s.1 i))
same_words (Retire node reading) (Retire node2 reading2) has also same =
    (let s = same_two node node2 reading reading2 has also same in λ i. Retire (s.0 i) (s.1 i))
same_words Join Join has also same = refl
same_words (Send node reading) (Send node2 reading2) has also same =
    (let s = same_two node node2 reading reading2 has also same in λ i. Send (s.0 i) (s.1 i))
same_words (Receive node reading message) (Receive node2 reading2 message2) has also same =
    (let s = same_two node node2 reading reading2 (has.0, has.1) (also.0, also.1) same in
    let e : decimal message ≡ decimal message2 = cc in
    let t = decimal_injective message message2 has.2 also.2 e in λ i. Receive (s.0 i) (s.1 i) (t i))
same_words (Deliver node number) (Deliver node2 number2) has also same =
    (let s = same_two node node2 number number2 has also same in λ i. Deliver (s.0 i) (s.1 i))
same_words (Observe node reading id) (Observe node2 reading2 id2) has also same =
    (let s = same_two node node2 reading reading2 (has.0, has.1) (also.0, also.1) same in
    let e : decimal id ≡ decimal id2 = cc in
    let t = decimal_injective id id2 has.2 also.2 e in λ i. Observe (s.0 i) (s.1 i) (t i))
same_words (OpenAt stamp) (OpenAt stamp2) has also same =
    (let e : stamp_text stamp ≡ stamp_text stamp2 = cc in ap OpenAt (one_stamp stamp stamp2 has also e))
same_words (OpenAt stamp) OpenFloor has also same =
    (let e : stamp_text stamp ≡ codes "floor" = cc in absurd (not_floor stamp has e))
same_words OpenFloor (OpenAt stamp) has also same =
    (let e : codes "floor" ≡ stamp_text stamp = cc in absurd (not_floor stamp also (sym e)))
same_words OpenFloor OpenFloor has also same = refl
same_words (Read id key) (Read id2 key2) has also same =
    (let e : decimal id ≡ decimal id2 = cc in
    let e2 : bytes_token key ≡ bytes_token key2 = cc in
    let s = decimal_injective id id2 has.0 also.0 e in
    let t = one_token key key2 has.1 also.1 e2 in λ i. Read (s i) (t i))
same_words (ListAll id) (ListAll id2) has also same =
    (let e : decimal id ≡ decimal id2 = cc in ap ListAll (decimal_injective id id2 has also e))
same_words (Close id) (Close id2) has also same =
    (let e : decimal id ≡ decimal id2 = cc in ap Close (decimal_injective id id2 has also e))
same_words Floor Floor has also same = refl
same_words Vacuum Vacuum has also same = refl
same_words Rows Rows has also same = refl
same_words event other has also same = absurd (omega (arith, ap mark same))

-- a line is the line of at most one event
pub one_event : OneEvent
one_event event other has also same =
    same_words event other has also
    (sym (words_of_line event has) ∙ ap (slice_split (λ b. eqb b 32)) same ∙ words_of_line other also)

-- a header is that of one number of nodes only
pub one_header : (nodes other : ℕ) → HasHeader nodes → HasHeader other → header_line nodes ≡ header_line other
    → nodes ≡ other
one_header nodes other has also same =
    let words : header_words nodes ≡ header_words other =
    sym (words_of_header nodes has) ∙ ap (slice_split (λ b. eqb b 32)) same ∙ words_of_header other also in
    let digits : decimal nodes ≡ decimal other = cc in
    decimal_injective nodes other (omega arith) (omega arith) digits

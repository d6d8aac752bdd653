-- A block is the rest of the front, and then the bytes after the front.
use Rattle.std.proofs.Common.{◌≡◌, ℕ, ◌-◌, ◌≤◌, List, [], ◌++◌, length, take, drop, Option, Some, None, true, false}
use Rattle.std.proofs.Common.{Result, Ok, Err, refl, sym, ap, subst, ◌∙◌, arith, inl, inr}
use Rattle.std.{specs.Option.is_some, proofs.lemmas.Bool.cases_lt}
use Rattle.std.proofs.lemmas.List.{take-append-le, take_all, drop_all, append-nil, length-take}
use Rattle.hlc_wire.specs.{declared.fault.WireFault.WireFault, Reading.◌>>=◌}
use Rattle.hlc_frame.specs.declared.{front.Front.Front, rest.RestReader.RestReader, reader.FrameReader.FrameReader}
use Rattle.hlc_frame.{specs.Opening.front_at, proofs.ListLemmas.take_again, proofs.ListLemmas.drop_again}
use Rattle.hlc_frame.specs.Reading.{HasRead, HasReadRest, GoesOn, body_after, body_so_far}
use Rattle.hlc_frame.proofs.FrontLemmas.{front_ok, front_cut, with_rest}

-- before a tail of the block the reader is as far as the front; `after` is all that will have come after the front
abbrev pub Ready : Result (Front × List ℕ) WireFault → Option RestReader → List ℕ → List ℕ → List ℕ → List ℕ → Type 0
Ready (Ok found) (Some rest) front so_far tail after =
    (bytes : List ℕ) × HasReadRest rest front found.0.len bytes × (bytes ++ tail ≡ after)
    × (so_far ≡ take found.0.len bytes)
Ready (Err fault) None front so_far tail after = so_far ≡ []
Ready (Ok found) None front so_far tail after = ⊥
Ready (Err fault) (Some rest) front so_far tail after = ⊥

-- the same, after this block
abbrev pub IsReady : Option RestReader → List ℕ → List ℕ → List ℕ → Type 0
IsReady rest fed block tail =
    Ready (front_at (take 20 (fed ++ block))) rest (take 20 (fed ++ block)) (body_so_far fed) tail
    (drop 20 (fed ++ block))

pub body_cut : (fed : List ℕ) → body_so_far fed ≡ body_after (front_at (take 20 fed) >>= with_rest (drop 20 fed))
unfolding body_so_far
body_cut fed = ap body_after (front_cut fed)

-- ---- if there was no front

begun : (read : Result (Front × List ℕ) WireFault) (rest : Option RestReader) (front so_far tail after : List ℕ)
    → GoesOn read rest front [] → so_far ≡ [] → ((found : Front × List ℕ) → read ≡ Ok found → tail ≡ after)
    → Ready read rest front so_far tail after
begun (Ok found) (Some rest) front so_far tail after goes none is =
    ([], goes, is found refl, none ∙ sym (take_all found.0.len [] (omega arith)))
begun (Err fault) None front so_far tail after goes none is = none
begun (Ok found) None front so_far tail after goes none is = goes
begun (Err fault) (Some rest) front so_far tail after goes none is = goes

no_front : (read : Result (Front × List ℕ) WireFault) (rest : Option RestReader) (front bytes : List ℕ)
    → GoesOn read rest front bytes → is_some rest ≡ false → (fault : WireFault) × (read ≡ Err fault)
no_front (Err fault) None front bytes goes e = (fault, refl)
no_front (Ok found) None front bytes goes e = absurd goes
no_front (Err fault) (Some rest) front bytes goes e = absurd goes
no_front (Ok found) (Some rest) front bytes goes e = absurd cc

is_ok_or_err : (read : Result (Front × List ℕ) WireFault) (found : Front × List ℕ) (fault : WireFault)
    → read ≡ Ok found → read ≡ Err fault → ⊥
is_ok_or_err read found fault a b = cc

pub first_block : (old : FrameReader) (fed block tail buffer : List ℕ) (rest : Option RestReader) → HasRead old fed
    → is_some old.rest ≡ false → buffer ≡ take 20 (old.front.items ++ block)
    → tail ≡ drop (20 - length old.front.items) block → GoesOn (front_at buffer) rest buffer []
    → IsReady rest fed block tail
first_block old fed block tail buffer rest has none buffer_is tail_is goes =
    let was = no_front (front_at (take 20 fed)) old.rest (take 20 fed) (drop 20 fed) has.rest none in
    let whole : buffer ≡ take 20 (fed ++ block) =
    buffer_is ∙ ap (λ (l : List ℕ). take 20 (l ++ block)) has.front ∙ take_again 20 fed block in
    let nothing : body_so_far fed ≡ [] = body_cut fed
    ∙ ap (λ (r : Result (Front × List ℕ) WireFault). body_after (r >>= with_rest (drop 20 fed))) was.1 in
    let short : (found : Front × List ℕ) → front_at (take 20 (fed ++ block)) ≡ Ok found → length fed ≤ 20 = λ found e.
    elim (cases_lt 20 (length fed)) [
      | inl lt ↦
          let same : take 20 (fed ++ block) ≡ take 20 fed = take-append-le 20 fed block (omega arith) in
          absurd (is_ok_or_err (front_at (take 20 fed)) found was.0 (ap front_at (sym same) ∙ e) was.1)
      | inr le ↦ le
    ] in
    let rest_is : (found : Front × List ℕ) → front_at (take 20 (fed ++ block)) ≡ Ok found
    → tail ≡ drop 20 (fed ++ block) =
    λ found e.
    let le = short found e in
    tail_is ∙ ap (λ (l : List ℕ). drop (20 - length l) block) has.front
    ∙ ap (λ (l : List ℕ). l ++ drop (20 - length (take 20 fed)) block) (sym (drop_all 20 fed le))
    ∙ drop_again 20 fed block in
    begun (front_at (take 20 (fed ++ block))) rest (take 20 (fed ++ block)) (body_so_far fed) tail (drop 20
    (fed ++ block))
    (subst (λ (l : List ℕ). GoesOn (front_at l) rest l []) whole goes) nothing rest_is

-- ---- if there was a front

going : (read : Result (Front × List ℕ) WireFault) (rest : Option RestReader) (front bytes so_far tail after : List ℕ)
    → GoesOn read rest front bytes → ((found : Front × List ℕ) → read ≡ Ok found → bytes ++ tail ≡ after)
    → so_far ≡ body_after (read >>= with_rest bytes) → Ready read rest front so_far tail after
going (Ok found) (Some rest) front bytes so_far tail after goes is body = (bytes, goes, is found refl, body)
going (Err fault) None front bytes so_far tail after goes is body = body
going (Ok found) None front bytes so_far tail after goes is body = goes
going (Err fault) (Some rest) front bytes so_far tail after goes is body = goes

a_front : (read : Result (Front × List ℕ) WireFault) (rest : Option RestReader) (front bytes : List ℕ)
    → GoesOn read rest front bytes → is_some rest ≡ true → (found : Front × List ℕ) × (read ≡ Ok found)
a_front (Ok found) (Some rest) front bytes goes some = (found, refl)
a_front (Err fault) None front bytes goes some = absurd cc
a_front (Ok found) None front bytes goes some = absurd goes
a_front (Err fault) (Some rest) front bytes goes some = absurd goes

pub later_block : (old : FrameReader) (fed block tail : List ℕ) → HasRead old fed → is_some old.rest ≡ true
    → tail ≡ drop (20 - length old.front.items) block → IsReady old.rest fed block tail
later_block old fed block tail has some tail_is =
    let was = a_front (front_at (take 20 fed)) old.rest (take 20 fed) (drop 20 fed) has.rest some in
    let full = front_ok (take 20 fed) was.0 was.1 in
    let long : 20 ≤ length fed = omega (arith, full, length-take 20 fed) in
    let same : take 20 fed ≡ take 20 (fed ++ block) = sym (take-append-le 20 fed block long) in
    let rest_is : drop 20 fed ++ tail ≡ drop 20 (fed ++ block) =
    ap (λ (l : List ℕ). drop 20 fed ++ l) (tail_is ∙ ap (λ (l : List ℕ). drop (20 - length l) block) has.front)
    ∙ drop_again 20 fed block in
    subst (λ (l : List ℕ). Ready (front_at l) old.rest l (body_so_far fed) tail (drop 20 (fed ++ block))) same
    (going (front_at (take 20 fed)) old.rest (take 20 fed) (drop 20 fed) (body_so_far fed) tail (drop 20 (fed ++ block))
    has.rest (λ found e. rest_is) (body_cut fed))

-- ---- after the block

pub none_body : (read : Result (Front × List ℕ) WireFault) (front so_far tail after : List ℕ)
    → Ready read None front so_far tail after → so_far ++ [] ≡ body_after (read >>= with_rest after)
none_body (Ok found) front so_far tail after ready = absurd ready
none_body (Err fault) front so_far tail after ready = append-nil so_far ∙ ready

pub some_goes : (read : Result (Front × List ℕ) WireFault) (rest new : RestReader) (front so_far tail after : List ℕ)
    → Ready read (Some rest) front so_far tail after
    → ((start : List ℕ) (len : ℕ) (bytes : List ℕ) → HasReadRest rest start len bytes
    → HasReadRest new start len (bytes ++ tail)) → GoesOn read (Some new) front after
some_goes (Ok found) rest new front so_far tail after ready feeds =
    subst (λ (l : List ℕ). HasReadRest new front found.0.len l) ready.2 (feeds front found.0.len ready.0 ready.1)
some_goes (Err fault) rest new front so_far tail after ready feeds = absurd ready

pub some_body : (read : Result (Front × List ℕ) WireFault) (rest : RestReader) (front so_far tail after got : List ℕ)
    → Ready read (Some rest) front so_far tail after
    → ((start : List ℕ) (len : ℕ) (bytes : List ℕ) → HasReadRest rest start len bytes
    → take len bytes ++ got ≡ take len (bytes ++ tail)) → so_far ++ got ≡ body_after (read >>= with_rest after)
some_body (Ok found) rest front so_far tail after got ready feeds =
    ap (λ (l : List ℕ). l ++ got) ready.3 ∙ feeds front found.0.len ready.0 ready.1
    ∙ ap (λ (l : List ℕ). take found.0.len l) ready.2
some_body (Err fault) rest front so_far tail after got ready feeds = absurd ready

-- what the rest has read, if there is one
pub goes_some : (read : Result (Front × List ℕ) WireFault) (rest : Option RestReader) (front bytes : List ℕ)
    (found : Front × List ℕ) (reader : RestReader) → GoesOn read rest front bytes → read ≡ Ok found → rest ≡ Some reader
    → HasReadRest reader front found.0.len bytes
goes_some read rest front bytes found reader goes e o =
    let at_found : GoesOn (Ok found) rest front bytes =
    subst (λ (r : Result (Front × List ℕ) WireFault). GoesOn r rest front bytes) e goes in
    subst (λ (r : Option RestReader). GoesOn (Ok found) r front bytes) o at_found

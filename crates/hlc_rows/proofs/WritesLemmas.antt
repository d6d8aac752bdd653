-- A batch that is not refused has writes, at most 256, of different keys, and none of them is refused.
use Rattle.std.proofs.Common.{◌≡◌, ◌≤◌, List, Bool, true, false, cond, eqb, ltb, length, Option, Some, None, ltb-false}
use Rattle.std.proofs.Common.{refl}
use Rattle.std.proofs.lemmas.Bool.{eqb-false}
use Rattle.hlc_rows.specs.declared.{write.Write.Write, limits.BodyFault.BodyFault, limits.TheConstants.MAX_WRITES}
use Rattle.hlc_rows.specs.declared.limits.BodyFault.TheVariants.{NoWrites, TooManyWrites, KeyTwice}
use Rattle.hlc_rows.specs.Writes.{first_of, writes_twice, writes_refusal, batch_refusal}

-- of two reasons there is none
pub first-none : (first second : Option BodyFault) → first_of first second ≡ None → (first ≡ None) × (second ≡ None)
first-none None second none = (refl, none)
first-none (Some fault) second none = absurd cc

if-none : (b : Bool) (fault : BodyFault) (rest : Option BodyFault) → cond b (Some fault) rest ≡ None
    → (b ≡ false) × (rest ≡ None)
if-none true fault rest none = absurd cc
if-none false fault rest none = (refl, none)

pub record Good (writes : List Write) : Type 0 where
  pub some : length writes ≡ 0 → ⊥
  pub few : length writes ≤ 256
  pub once : writes_twice writes ≡ false
  pub none : writes_refusal writes ≡ None

pub good : (writes : List Write) → batch_refusal writes ≡ None → Good writes
good writes h =
    let some = if-none (eqb (length writes) 0) NoWrites _ h in
    let few = if-none (ltb MAX_WRITES (length writes)) TooManyWrites _ some.1 in
    let once = if-none (writes_twice writes) KeyTwice _ few.1 in record {
      some = eqb-false (length writes) 0 some.0;
      few = ltb-false 256 (length writes) few.0;
      once = once.0;
      none = once.1;
    }

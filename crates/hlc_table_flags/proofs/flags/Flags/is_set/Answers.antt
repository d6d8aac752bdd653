-- A flag of either form.
use Rattle.std.proofs.Common.{◌≡◌, ◌-◌, ◌*◌, ◌^◌, ◌<◌, ◌≤◌, ◌∙◌, false, ap, sym, subst, arith, length, get_or}
use Rattle.hlc_table_flags.specs.{Bits.bits_in, Forms.flags_in, Forms.IsInWords}
use Rattle.hlc_table_flags.proofs.BitLemmas.{bits_length, bits_get}
use Rattle.hlc_table_flags.proofs.flags.Flags.is_set.Goals.{In-Bytes, In-Bits}
use Rattle.hlc_table_flags.proofs.flags.Flags.is_set.Goals as goal

bytes_are : (c : In-Bytes) → c.in-Bytes.flags.now ≡ c.args.self.now
bytes_are c = ap flags_in (sym c.in-Bytes.is) ∙ c.self.view_is

bits_are : (c : In-Bits)
    → bits_in c.in-Bits.words.now c.in-Bits.from (c.in-Bits.field-2 - c.in-Bits.from) ≡ c.args.self.now
bits_are c = ap flags_in (sym c.in-Bits.is) ∙ c.self.view_is

inside : (c : In-Bits) → c.args.at < c.in-Bits.field-2 - c.in-Bits.from
inside c =
    let many = bits_length c.in-Bits.words.now c.in-Bits.from (c.in-Bits.field-2 - c.in-Bits.from) in
    omega (arith, ap length (bits_are c), c.requires)

within : (c : In-Bits) → (c.in-Bits.from ≤ c.in-Bits.field-2)
    × ((c.in-Bits.field-2 ≤ 64 * length c.in-Bits.words.now) × (c.in-Bits.field-2 < 2 ^ 64))
within c = subst IsInWords c.in-Bits.is c.self.invariant

pub bounds-flags-at : goal.bounds-flags-at
bounds-flags-at c =
    let at = (goal.at.bounds-flags-at c).In-Bytes in
    subst (λ flags. c.args.at < length flags) (sym (bytes_are at)) c.requires

pub overflow_add-from : goal.overflow_add-from
overflow_add-from c =
    let lt = inside ((goal.at.overflow_add-from c).In-Bits) in
    let top = (within ((goal.at.overflow_add-from c).In-Bits)).1.1 in
    omega (arith, (within ((goal.at.overflow_add-from c).In-Bits)).0)

pub bit_of-requires : goal.bit_of-requires
bit_of-requires c =
    let lt = inside ((goal.at.bit_of-requires c).In-Bits) in
    omega (arith, (within ((goal.at.bit_of-requires c).In-Bits)).1.0, (within ((goal.at.bit_of-requires c).In-Bits)).0)

pub returns-in-Bytes : goal.returns-in-Bytes
returns-in-Bytes c =
    ap (λ flags. get_or flags c.args.at false) (bytes_are ((goal.at.returns-in-Bytes c).In-Bytes))

pub returns-in-Bits : goal.returns-in-Bits
returns-in-Bits c =
    let at = (goal.at.returns-in-Bits c).In-Bits in
    c.bit_of.ensures
    ∙ sym (bits_get c.in-Bits.words.now c.in-Bits.from (c.in-Bits.field-2 - c.in-Bits.from) c.args.at (inside at))
    ∙ ap (λ flags. get_or flags c.args.at false) (bits_are at)

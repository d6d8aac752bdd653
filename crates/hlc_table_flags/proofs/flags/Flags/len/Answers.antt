-- Of either form.
use Rattle.std.proofs.Common.{◌-◌, ◌∙◌, ap, sym, length}
use Rattle.hlc_table_flags.{specs.Forms.flags_in, proofs.BitLemmas.bits_length}
use Rattle.hlc_table_flags.proofs.flags.Flags.len.Goals as goal

pub returns-in-Bytes : goal.returns-in-Bytes
returns-in-Bytes c = ap (λ form. length (flags_in form)) (sym c.in-Bytes.is) ∙ ap length c.self.view_is

pub returns-in-Bits : goal.returns-in-Bits
returns-in-Bits c =
    sym (bits_length c.in-Bits.field-0.now c.in-Bits.from (c.in-Bits.to - c.in-Bits.from))
    ∙ ap (λ form. length (flags_in form)) (sym c.in-Bits.is) ∙ ap length c.self.view_is

-- A `&` to a reader is made, copied and shortened. Assumes `Logic`.
use denote.Param.Shared.{copy_shared}
use denote.Struct.{Field.RawPtr-field, Laws.RawPtr-copy, Lending.lent_at, Lending.lent_at_shr_laws, Lending.of_Lends}
use Rattle.hlc_handle.proofs.{Lending.lends, Lending.shares_laws, reader.LentCore.TheLaw.Statement.statement}
use Rattle.hlc_handle.specs.contracts.reader.LentCore as C
use Rattle.hlc_core.specs.contracts.store.Core as core
use Rattle.hlc_core.proofs.store.Core.TheLaws as core_laws

pub shares : statement
shares = let R = core.the_row in let L = core_laws.the_row_laws.shr_laws in
    of_Lends C.struct C.the_codes C.the_heap C.the_lent (λ d p. shares_laws R L d.at d.value)
    (copy_shared RawPtr-field RawPtr-copy, tt)
    (λ M 𝓤 𝓛 d p.
    lends (lent_at R d.at d.value.1) (lent_at_shr_laws R L d.at d.value.1) d.value.0 𝓛 (C.the_row).lives)

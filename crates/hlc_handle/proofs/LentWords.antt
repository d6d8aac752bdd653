-- The pointer in what a `&` to a reader shows. Assumes `Logic`.
use Rattle.std.proofs.Common.{ℕ, ◌+◌, [], ◌∷◌}
use seplogic.Ra.Ura.{Ura}
use base.{Logic.ent, Logic.sep, Fml.Fml, Fml.Lft}
use types.{Logic.Logic, Logic.sem, Kit.‵, Kit.◌$◌, Kit.◌∵◌, Kit.!, Kit.qed, Kit.keep, Kit.fsplit, Kit.done}
use denote.{Memory.hidden_shr, RawPtr.RawPtr, RawPtr.ptr_row_laws}
use denote.{Opens.shr_dup, Opens.unhide, Opens.hide, RattleType.RattleType, RattleType.RowLaws}
use denote.Struct.{Struct.Struct, Struct.Struct-row_laws, Owning.shape}
use Rattle.hlc_handle.specs.contracts.reader.LentCore as lent

abbrev pub Words : RattleType
Words = Struct (shape lent.the_type)

words_laws : RowLaws Words
words_laws = Struct-row_laws (shape lent.the_type) (ptr_row_laws, tt)

module _ {M : Type 1} {𝓤 : Ura M} (𝓛 : Logic 𝓤) (κ : Lft) (b o : ℕ) (d : (lent.the_row).Denot) where
  abbrev S : Fml
  S = hidden_shr Words κ (d.at, tt) b o

  pub shows : ent 𝓤 (sem 𝓛 S) (sep 𝓤 (sem 𝓛 (hidden_shr RawPtr κ d.at b (o + 0))) (sem 𝓛 S))
  shows =
      qed 𝓛 (‵ S ∷ []) ∵
      shr_dup ! Words words_laws (d.at, tt) b o κ $ unhide ! $ fsplit ! $ fsplit ! $ hide ! $
      keep ! (0 ∷ 3 ∷ []) $ done !

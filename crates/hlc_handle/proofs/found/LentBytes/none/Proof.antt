-- `none` has nothing, at null. Assumes `Logic`.
use Rattle.std.proofs.Common.{◌≡◌, ℕ, List, [], ◌∷◌, refl, lit<, w64, Option, None}
use mir.Val.{Val, vint}
use base.{Logic.SProp, Logic.emp, Fml.ftrue}
use types.Kit.{‵, raw, ◌⊛◌, ◌$◌, ◌∵◌, !, qed, by, keep, use0}
use types.{Run.lit, Run.no_more, Run.and_then, Run.returns, Run.enter, Part.agg}
use types.ByLocal.{alloc_all, pass_all, free_all, look_at, sets}
use contract.{Monad.fact, Monad.fact_i, Running.tables}
use denote.{RawPtr.Ptr, RawPtr.null_ptr, Steps.nothing, Triple.Walked.Stays, Triple.Walked.walk_of}
use Rattle.std.proofs.raw_atomic.Walks.{proved_at, leaves}
use Rattle.hlc_handle.specs.Lent.{lent_bytes}
use Rattle.hlc_handle.proofs.{Rooms.one, Rooms.room_in, found.LentBytes.none.Statement.statement}
use Rattle.hlc_handle.specs.contracts.found.LentBytes.none.{ended, clauses, Key.name as #self}
use Rattle.hlc_handle.specs.contracts.found.LentBytes as bytes
use Rattle.hlc_handle.proofs.found.LentBytes.none.Code as code

pub none_spec : {M : Type 1} → statement M
none_spec 𝓤 𝓛 𝓜 𝓡 wired =
    let 𝓣 = tables 𝓤 𝓛.H 𝓜 𝓡 𝓡.env in let c = clauses 𝓛 𝓜.mem 𝓡.returns in let fn = code.function in
    let hs : Stays ended.signature.params ended.kept = tt in
    proved_at 𝓛 ended hs c 𝓜 𝓡 tt #self fn (code.unfolded 𝓤 𝓛.H 𝓜 𝓡 wired) (λ z are.
    let Post : Val → SProp 𝓤 = (walk_of 𝓛 ended hs c).post z in
    let out : (bytes.the_row).Denot = record { at = null_ptr; value = None } in let w : Val = one (vint w64 0) in
    let nowhere : Ptr = null_ptr in let nothing' : Option (ℕ × List ℕ) = None in
    qed 𝓛 ((‵ ftrue ⊛ ‵ ftrue) ∷ ‵ ftrue ∷ []) ∵
    enter ! 𝓣.C 𝓣.Λ fn [] Post $ alloc_all ! (λ l. pass_all ! refl tt $
    sets ! (agg ! (and_then ! (lit ! tt) (no_more !))) refl (tt, (record { fits = lit< tt }, tt)) $
    nothing ! $ room_in ! out.at (lent_bytes out.at out.value) $
    use0 𝓛 (raw (fact 𝓤 ((nowhere ≡ nowhere) × (nothing' ≡ nothing'))))
    (fact_i 𝓤 ((nowhere ≡ nowhere) × (nothing' ≡ nothing')) (emp 𝓤) (refl, refl)) $ nothing ! $ nothing ! $
    returns ! (look_at ! 0 refl) $ free_all ! refl $ keep ! (0 ∷ 1 ∷ 3 ∷ 2 ∷ []) $
    by ! (leaves 𝓛 ended hs c z w out tt tt)))

-- A read in a snapshot of a key's store, at a cut, is of the newest of all issued writes.
use Rattle.std.proofs.Common.{◌≡◌, ℕ, ◌≤◌, List, Some, Option, Result, ap, sym, ◌∙◌, subst, arith}
use Rattle.std.specs.Prelude.{MatchOption, IsErr, IsOkAnd}
use Rattle.hlc_rows.specs.Rows.{answer}
use Rattle.hlc_core.specs.Past.{stamp_of, writes}
use Rattle.hlc_ranges.specs.{Run.Layout, Run.Turn, Run.past_of, Run.issued_writes, Cut.AreNewestIssued}

pub newest : {T E : Type 0} (layout : Layout) (run : List Turn) (s id stamp : ℕ) (key : List ℕ) (result : Result T E)
    (f : T → Option (List ℕ)) → layout.store_of key ≡ s → stamp_of id (past_of layout s run) ≡ Some stamp
    → MatchOption (stamp_of id (past_of layout s run)) (IsErr result)
    (λ at. IsOkAnd result (λ value. f value ≡ answer (writes (past_of layout s run)) key at))
    → AreNewestIssued layout run stamp
    → IsOkAnd result (λ value. f value ≡ answer (issued_writes layout run) key stamp)
newest layout run s id stamp key result f routed is found all' =
    let low : stamp ≤ stamp = omega arith in
    let same : answer (writes (past_of layout s run)) key stamp ≡ answer (issued_writes layout run) key stamp =
    ap (λ k. answer (writes (past_of layout k run)) key stamp) (sym routed) ∙ all' key stamp low in
    subst (λ a. IsOkAnd result (λ value. f value ≡ a)) same
    (subst (λ o. MatchOption o (IsErr result)
    (λ at. IsOkAnd result (λ value. f value ≡ answer (writes (past_of layout s run)) key at))) is found)

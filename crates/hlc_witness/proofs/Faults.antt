-- The first fault of a witness, with those before it changes and ascending, is the first reason of all;
-- and a certificate has none.
use Rattle.std.proofs.Common.{All, length, get_or, drop, sym, ap, ◌∙◌, subst, take, ◌≡◌, ℕ, List, [], ◌∷◌, ◌<◌, ◌+◌}
use Rattle.std.proofs.Common.{◌++◌}
use Rattle.std.proofs.lemmas.List.{take_more, Elements.All-push}
use Rattle.hlc_rows.specs.declared.row.Row.{Row}
use Rattle.hlc_witness.specs.{Certificate.IsCertificate, Reasons.IsFault, Reasons.IsFirstFault}
use Rattle.hlc_witness.specs.Changes.{ChangesAscend, IsChange}
use Rattle.hlc_witness.specs.declared.{reason.NotShown.NotShown, witness.Witness.Witness}
use Rattle.hlc_witness.proofs.{Ascending.around, FaultLemmas.changes_no_fault}

pub certificate_no_fault : (rows : List Row) (points : List ℕ) (witnesses : List Witness) (i : ℕ)
    (witness : Witness) (reason : NotShown) → i < length witnesses → witness ≡ get_or witnesses i witness
    → IsFault rows points (take i witnesses) witness reason → IsCertificate rows points witnesses → ⊥
certificate_no_fault rows points witnesses i witness reason lt is fault certificate =
    changes_no_fault rows points witnesses (take i witnesses) (drop (i + 1) witnesses) witness reason
    (around witnesses i witness lt is) certificate.witnesses_ascend certificate.each fault

-- the fault of a witness, if those before it have none
pub first_fault : (rows : List Row) (points : List ℕ) (witnesses : List Witness) (i : ℕ) (witness : Witness)
    (reason : NotShown) → i < length witnesses → witness ≡ get_or witnesses i witness → ChangesAscend (take i witnesses)
    → All (IsChange rows points) (take i witnesses) → IsFault rows points (take i witnesses) witness reason
    → IsFirstFault rows points witnesses reason
first_fault rows points witnesses i witness reason lt is up each fault = record {
  front = take i witnesses;
  witness = witness;
  back = drop (i + 1) witnesses;
  order = around witnesses i witness lt is;
  ascend = up;
  each = each;
  fault = fault;
}

-- one more change
pub each_more : (rows : List Row) (points : List ℕ) (witnesses : List Witness) (i : ℕ) (witness : Witness)
    → i < length witnesses → witness ≡ get_or witnesses i witness → All (IsChange rows points) (take i witnesses)
    → IsChange rows points witness → All (IsChange rows points) (take (i + 1) witnesses)
each_more rows points witnesses i witness lt is each one =
    subst (All (IsChange rows points))
    (ap (λ w. take i witnesses ++ w ∷ []) is ∙ sym (take_more witnesses i witness lt))
    (All-push (IsChange rows points) (take i witnesses) witness each one)

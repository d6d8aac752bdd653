-- Snapshots are opened and closed where that is not refused: the core represents one more step.
use Rattle.std.proofs.Common.{◌≡◌, ℕ, ◌+◌, List, [], ◌∷◌, ◌++◌, length, Some, None, Ok, Err, Result, refl, ap, sym, ◌∙◌}
use Rattle.std.proofs.Common.{subst, inl, inr, ◌==◌, not, Contains, IfOk, OnErr}
use Rattle.std.proofs.lemmas.{Bool.cond-true, Bool.cond-false, Bool.cases_Bool, List.map-append}
use Rattle.hlc_values.proofs.MemberLemmas.{Contains-first, Contains-rest, Contains-cons_cases}
use Rattle.hlc_rows.specs.declared.row.Row.{Row}
use Rattle.hlc_core.specs.Past.{Step, Opened, Closed, horizon, last_id, writes, open_snapshots, of_room, room_refusal}
use Rattle.hlc_core.specs.Past.{open_refusal, stamp_of}
use Rattle.hlc_core.specs.{StoreView.StoreView, StoreView.Represents, Calls.Closes}
use Rattle.hlc_snapshot.specs.declared.{snapshot.Snapshot.Snapshot, fault.NoSnapshot.NoSnapshot}
use Rattle.hlc_vacuum.specs.Representing.{RowsRepresent}
use Rattle.hlc_vacuum.proofs.RepresentingLemmas.{opens_keep_representing}
use Rattle.hlc_snapshot.specs.RegistryView.{RegistryView, closed, stamps, stamp_in, without, room_refusal as room_in}
use Rattle.hlc_core.proofs.PastLemmas.{open-above}

-- the remaining room is that of the past
pub room-expected : (kept : StoreView) (past : List Step) → Represents kept past
    → of_room (room_in (length kept.snapshots) kept.last_id) ≡ room_refusal past
room-expected kept past h = rw (h.snapshots, h.last_id) refl

abbrev pub with_snapshot : StoreView → ℕ → StoreView
with_snapshot kept stamp = record kept {
  snapshots = kept.snapshots ++ record { id = kept.last_id + 1; stamp = stamp } ∷ [];
  last_id = kept.last_id + 1;
}

-- a snapshot whose opening is not refused is opened
pub opens : (kept : StoreView) (past : List Step) (stamp : ℕ) → Represents kept past
    → open_refusal past stamp ≡ None → Represents (with_snapshot kept stamp) (Opened stamp ∷ past)
opens kept past stamp h none =
    record {
      legal = (none, h.legal);
      initial_nodes = h.initial_nodes;
      links = record { many = h.links.many; each = h.links.each };
      top = h.top;
      snapshots = ap (λ xs. xs ++ record { id = kept.last_id + 1; stamp = stamp } ∷ []) h.snapshots
          ∙ ap (λ n. open_snapshots past ++ record { id = n + 1; stamp = stamp } ∷ []) h.last_id;
      last_id = ap (λ n. n + 1) h.last_id;
      rows = subst (λ opened. RowsRepresent kept.rows (writes past) (horizon past) opened)
          (sym (map-append (λ (snapshot : Snapshot). snapshot.stamp) (open_snapshots past)
          (record { id = last_id past + 1; stamp = stamp } ∷ [])))
          (opens_keep_representing kept.rows (writes past) (horizon past) stamp
          (stamps (open_snapshots past)) h.rows (open-above past stamp none));
      stored = h.stored;
      horizon = h.horizon;
    }

abbrev pub less_snapshot : StoreView → ℕ → StoreView
less_snapshot kept id = record kept { snapshots = without id kept.snapshots }

-- the stamps that are still open were open before
still-open : (id stamp : ℕ) (xs : List Snapshot) → Contains (stamps (without id xs)) stamp → Contains (stamps xs) stamp
still-open id stamp [] m = m
still-open id stamp (x ∷ xs) m =
    elim (cases_Bool (not (x.id == id))) [
      | inl kept ↦
          elim (Contains-cons_cases x.stamp stamp (stamps (without id xs))
          (subst (λ ys. Contains (stamps ys) stamp) (cond-true _ _ _ kept) m)) [
            | inl here ↦ subst (λ k. Contains (stamps (x ∷ xs)) k) here (Contains-first x.stamp (stamps xs))
            | inr rest ↦ Contains-rest x.stamp stamp (stamps xs) (still-open id stamp xs rest)
          ]
      | inr has_retired ↦ Contains-rest x.stamp stamp (stamps xs)
          (still-open id stamp xs (subst (λ ys. Contains (stamps ys) stamp) (cond-false _ _ _ has_retired) m))
    ]

-- with fewer stamps open
pub fewer-stamps : (stored all : List Row) (horizon : ℕ) (opened fewer : List ℕ)
    → RowsRepresent stored all horizon opened → ((stamp : ℕ) → Contains fewer stamp → Contains opened stamp)
    → RowsRepresent stored all horizon fewer
fewer-stamps stored all horizon opened fewer represent still = record {
  row_set = represent.row_set;
  all_row_set = represent.all_row_set;
  within = represent.within;
  above = represent.above;
  at_open = λ key stamp m. represent.at_open key stamp (still stamp m);
  from_horizon = represent.from_horizon;
}

-- an open snapshot is closed
pub closes : (kept : StoreView) (past : List Step) (id stamp : ℕ)
    → Represents kept past → stamp_in id kept.snapshots ≡ Some stamp
    → (stamp_of id past ≡ Some stamp) × Represents (less_snapshot kept id) (Closed id ∷ past)
closes kept past id stamp h there =
    let is : stamp_of id past ≡ Some stamp = ap (stamp_in id) (sym h.snapshots) ∙ there in (
      is,
      record {
        legal = ((λ none. (let e : Some stamp ≡ None = sym is ∙ none in absurd (cc))), h.legal);
        initial_nodes = h.initial_nodes;
        links = record { many = h.links.many; each = h.links.each };
        top = h.top;
        snapshots = ap (without id) h.snapshots;
        last_id = h.last_id;
        rows = fewer-stamps kept.rows (writes past) (horizon past) (stamps (open_snapshots past))
            (stamps (without id (open_snapshots past))) h.rows (λ stamp m. still-open id stamp (open_snapshots past) m);
        stored = h.stored;
        horizon = h.horizon;
      },
    )

-- the core with this register
abbrev pub with_register : StoreView → RegistryView → StoreView
with_register kept register = record kept { snapshots = register.snapshots; last_id = register.last_id }

abbrev pub register_of : StoreView → RegistryView
register_of kept = record { snapshots = kept.snapshots; last_id = kept.last_id }

-- the result of the registry for a closing is the result of the core
pub closes-result : (kept : StoreView) (past : List Step) (id : ℕ) (new : RegistryView) (result : Result ℕ NoSnapshot)
    → Represents kept past
    → IfOk result (λ stamp. (stamp_in id kept.snapshots ≡ Some stamp) × (new ≡ closed id (register_of kept)))
    → OnErr result ((stamp_in id kept.snapshots ≡ None) × (new ≡ register_of kept))
    → Closes (with_register kept new) id past result
closes-result kept past id new (Ok stamp) h ok err = subst
    (λ register. Closes (with_register kept register) id past (Ok stamp)) (sym ok.1) (closes kept past id stamp h ok.0)
closes-result kept past id new (Err fault) h ok err = ap (stamp_in id) (sym h.snapshots) ∙ err.0

-- The rule of the board: one word for each node, the stamp that the node's feeder raised last.
use Rattle.std.specs.Prelude.{◌≡◌, ℕ, ◌+◌, ◌<◌, ◌≤◌, List, [], ◌∷◌, ◌++◌, length, replicate, slice_index, slice_set}
use Rattle.std.specs.Prelude.{slice_index_or}
use mathlib.Core.Option.{some}
use lib.ListN.{get_elem?}
use Rattle.atomic_table.specs.Table.{State, Step, Me}
use Rattle.hlc_floor.specs.declared.rule.Place.{Place}

-- the seat owns the number i
abbrev pub Owns : Place → ℕ → Type 0
Owns v i = (v.from ≤ i) × (i < v.to)

-- the seat a of the board has the view v
abbrev pub IsSeat : {S : Type 0} → State S Place → ℕ → Place → Type 0
IsSeat s a v = get_elem? s.views a ≡ some v

-- no two seats own the same number, word i is the stamp that the seat that owns i has raised, and no seen value is
-- above its word
pub record IsFresh {S : Type 0} (nodes : ℕ) (s : State S Place) : Type 0 where
  pub words : length s.words ≡ nodes
  pub one_seat : (a b i : ℕ) (v w : Place) → IsSeat s a v → IsSeat s b w → Owns v i → Owns w i → a ≡ b
  pub raised : (a i : ℕ) (v : Place) → IsSeat s a v → Owns v i → slice_index s.words i ≡ v.raised
  pub seen : (a k : ℕ) (v : Place) → IsSeat s a v → slice_index v.seen k ≤ slice_index s.words k

-- what the loads at node k found, the first of them first
abbrev pub found_at : List (List ℕ) → ℕ → List ℕ
found_at found k = slice_index_or found k []

-- the first seat owns everything that is not split off yet
abbrev pub uncut : ℕ → ℕ → Place
uncut nodes from = record { from = from; to = nodes; raised = 0; seen = replicate nodes 0; found = replicate nodes [] }

-- a feeder owns one number
abbrev pub feeder_place : ℕ → ℕ → Place
feeder_place node raised = record { from = node; to = node + 1; raised = raised; seen = []; found = [] }

-- a pass owns none
abbrev pub pass_place : List ℕ → List (List ℕ) → Place
pass_place seen found = record { from = 0; to = 0; raised = 0; seen = seen; found = found }

-- the seat without the least number that it owns
abbrev pub without_first : Place → Place
without_first v = record v { from = v.from + 1 }

-- the seat after it raised this stamp
abbrev pub raised_to : Place → ℕ → Place
raised_to v n = record v { raised = n }

-- the seat after it saw n in word k
abbrev pub looked : Place → ℕ → ℕ → Place
looked v k n = record v {
  seen = slice_set v.seen k n;
  found = slice_set v.found k (found_at v.found k ++ n ∷ []);
}

-- a raise: the stored word is the stamp that the feeder has raised
abbrev pub Raises : {S : Type 0} → Step S → Me S Place → ℕ → Me S Place → Type 0
Raises s me n after = after ≡ (raised_to me.0 n, me.1)

-- a load: the value found is what the pass has seen, and is no less than it saw before
abbrev pub Looks : {S : Type 0} → Step S → Me S Place → ℕ → Me S Place → Type 0
Looks s me n after = (after ≡ (looked me.0 s.word n, me.1)) × (slice_index me.0.seen s.word ≤ n)

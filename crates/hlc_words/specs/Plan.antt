-- Two plans of a storm are equal if their sizes are: there is only one proof that the sizes are in their ranges.
use Rattle.std.specs.Prelude.{◌≡◌, ◌≤◌}
use mathlib.Core.HLevel.{×_prop, is_prop→PathP}
use native.Mathlib.Bridge.{le_prop}
use Rattle.hlc_words.specs.declared.plan.StormPlan.{StormPlan}

pub same_plan : (a b : StormPlan) → a.nodes ≡ b.nodes → a.writes ≡ b.writes → a.keys ≡ b.keys
    → a.readers ≡ b.readers → a ≡ b
same_plan a b nodes writes keys readers = λ i. record {
  nodes = nodes i;
  writes = writes i;
  keys = keys i;
  readers = readers i;
  nodes_are =
      is_prop→PathP (λ j. (1 ≤ nodes j) × (nodes j ≤ 64)) (λ j. ×_prop le_prop le_prop) a.nodes_are b.nodes_are i;
  writes_are = is_prop→PathP (λ j. writes j ≤ 1000) (λ j. le_prop) a.writes_are b.writes_are i;
  keys_are = is_prop→PathP (λ j. (1 ≤ keys j) × (keys j ≤ 1000)) (λ j. ×_prop le_prop le_prop) a.keys_are b.keys_are i;
  readers_are = is_prop→PathP (λ j. readers j ≤ 64) (λ j. le_prop) a.readers_are b.readers_are i;
}

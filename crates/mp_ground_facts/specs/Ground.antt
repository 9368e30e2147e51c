-- A factor that is grounded, in numbers: its facts are numbered in their order.
use Rattle.std.specs.Prelude.{ℕ, List, map}
use Rattle.std.specs.List.{position_or_len}
use Rattle.std.specs.FinMap.{from_entries, keys}
use Rattle.mp_typing.specs.Places.{numbers_where}
use Rattle.mp_lifted.specs.declared.lifted.LiftedFactor.{LiftedFactor}
use Rattle.mp_lifted.specs.Binding.{ActionBinding}
use Rattle.mp_ground_facts.specs.declared.fact.GroundFact.{GroundFact}
use Rattle.mp_ground_facts.specs.Facts.{fact_cmp, is_initial, same_fact}
use Rattle.mp_ground_facts.specs.Touched.{needed, added, deleted, of_action, goal_facts, counted}

-- An action with objects for its parameters. Facts are numbers: places among those of the factor.
pub record GroundAction : Type 0 where
  -- the place of the action in its factor, from 0
  pub action : ℕ
  -- the object for each parameter, by its number
  pub objects : List ℕ
  pub cost : ℕ
  -- what has to be true
  pub pre : List ℕ
  -- what it makes true
  pub add : List ℕ
  -- what it makes false, unless it also makes it true
  pub del : List ℕ

-- a factor that is grounded
pub record GroundFactor : Type 0 where
  -- the facts and complements that an action touches or a goal names, each once, in their order
  pub facts : List GroundFact
  pub actions : List GroundAction
  -- the numbers of what is true at the start
  pub start : List ℕ
  -- the numbers of what the goals ask for
  pub goals : List ℕ

-- an entry of a map that has nothing at its keys
abbrev pub with_nothing : {K : Type 0} → K → K × Unit {0}
with_nothing k = (k, tt)

-- the facts and complements that an instance touches or a goal names, each once, in their order:
-- the keys of a map that has each of them
unfoldable pub facts_of : LiftedFactor → List ActionBinding → List GroundFact
facts_of factor instances =
    keys (from_entries {R = fact_cmp} (map with_nothing (counted factor instances)))

-- the number of a fact: its place
abbrev pub number_of : List GroundFact → GroundFact → ℕ
number_of facts f = position_or_len (same_fact f) facts

abbrev pub numbers_of : List GroundFact → List GroundFact → List ℕ
numbers_of facts some = map (number_of facts) some

-- an instance with the numbers of what it needs, adds and deletes
abbrev pub ground_action : LiftedFactor → List GroundFact → ActionBinding → GroundAction
ground_action factor facts i = record {
  action = i.action;
  objects = i.objects;
  cost = i.cost;
  pre = numbers_of facts (of_action factor needed i);
  add = numbers_of facts (of_action factor added i);
  del = numbers_of facts (of_action factor deleted i);
}

abbrev pub ground_with : LiftedFactor → List GroundFact → List ActionBinding → GroundFactor
ground_with factor facts instances = record {
  facts = facts;
  actions = map (ground_action factor facts) instances;
  start = numbers_where 0 (is_initial factor) facts;
  goals = numbers_of facts (goal_facts factor);
}

-- the factor that is grounded to these instances
abbrev pub ground_factor : LiftedFactor → List ActionBinding → GroundFactor
ground_factor factor instances = ground_with factor (facts_of factor instances) instances

-- Pattern databases of an agent's projected problem (Culberson and Schaeffer 1998; Edelkamp 2001).
use Rattle.std.specs.Prelude.{ℕ, zero, suc, ◌-◌, ◌==◌, Bool, not, Option, Some, None, List, [], ◌∷◌, ◌++◌, length, map, take, filter, if◌then◌else◌}
use Rattle.std.specs.FinSet as set
use Rattle.std.specs.List.{list_any, flat_map, range_with_len}
use Rattle.std.specs.Option.{option_map_or}
use Rattle.mp_sets.specs.Numbers.{Numbers}
use Rattle.mp_task.specs.AgentTask.{AgentTask}
use Rattle.mp_task.specs.Projected.{projected, projected_state}
use Rattle.mp_task.specs.Strips.{Operator, Problem, strips_system}
use Rattle.mp_estimates.specs.Estimates.{lesser}
use Rattle.mp_pdb.specs.Distance.{distance}

-- A pattern is a list of facts.
abbrev pub is_in : List ℕ → ℕ → Bool
is_in facts x = list_any (λ y. y == x) facts

-- of some facts those that a pattern has not
abbrev pub missing_among : List ℕ → List ℕ → List ℕ
missing_among pattern facts = filter (λ x. not (is_in pattern x)) facts

-- A pattern misses what an operator needs that adds a fact of it.
abbrev pub missing_of : List ℕ → Operator → List ℕ
missing_of pattern o = if list_any (is_in pattern) o.add then missing_among pattern o.pre else []

abbrev pub missing : List Operator → List ℕ → List ℕ
missing operators pattern = flat_map (missing_of pattern) operators

abbrev pub least : List ℕ → Option ℕ
least [] = None
least (x ∷ xs) = lesser (Some x) (least xs)

-- a pattern with the lowest fact that it misses, if it misses one
abbrev pub with_next : List Operator → List ℕ → List ℕ
with_next operators pattern =
    option_map_or (λ x. pattern ++ x ∷ []) (least (missing operators pattern)) pattern

-- and with so many, as long as it misses one
unfoldable pub grown : List Operator → ℕ → List ℕ → List ℕ
grown operators zero pattern = pattern
grown operators (suc n) pattern = grown operators n (with_next operators pattern)

-- The pattern of a problem has at most 12 facts: the goals by their numbers, the first 12 if there
-- are more, and then one after another the lowest fact that is missing.
abbrev pub pattern_of : Problem → List ℕ
pattern_of problem =
    let goals = take 12 problem.goals
    in grown problem.operators (12 - length goals) goals

-- of some facts those of a pattern
abbrev pub of_pattern : List ℕ → List ℕ → List ℕ
of_pattern pattern facts = filter (is_in pattern) facts

-- an abstract operator: the facts of the pattern alone
abbrev pub abstract_operator : List ℕ → Operator → Operator
abstract_operator pattern o = record {
  pre = of_pattern pattern o.pre;
  add = of_pattern pattern o.add;
  del = of_pattern pattern o.del;
  cost = o.cost;
}

-- the abstract problem of a pattern
abbrev pub abstraction : List ℕ → Problem → Problem
abstraction pattern problem = record {
  facts = problem.facts;
  operators = map (abstract_operator pattern) problem.operators;
  goals = of_pattern pattern problem.goals;
}

-- the abstract state of a state: the facts of the pattern that are true in it
abbrev pub abstract_state : List ℕ → Numbers → Numbers
abstract_state pattern s = set.from_list (filter (set.contains s) pattern)

-- the abstract states: the sets of facts of a pattern
unfoldable pub abstract_states : List ℕ → List Numbers
abstract_states [] = set.empty ∷ []
abstract_states (x ∷ xs) =
    abstract_states xs ++ map (λ s. set.insert s x) (abstract_states xs)

-- the actions of a problem: the numbers of its operators
abbrev pub actions_of : Problem → List ℕ
actions_of problem = range_with_len 0 (length problem.operators)

-- the least cost of a plan of the abstract problem
abbrev pub abstract_distance : List ℕ → Problem → Numbers → Option ℕ
abstract_distance pattern problem s =
    distance
    (strips_system (abstraction pattern problem))
    (actions_of problem)
    (abstract_states pattern)
    s

-- the value of a state of an agent's projected problem
abbrev pub pattern_value : AgentTask → Numbers → Numbers → Option ℕ
pattern_value t publics privates =
    let pattern = pattern_of (projected t)
    in abstract_distance
    pattern
    (projected t)
    (abstract_state pattern (projected_state t publics privates))

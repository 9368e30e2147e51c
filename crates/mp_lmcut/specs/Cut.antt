-- The heuristic LM-cut (Helmert and Domshlak 2009): rounds over operators whose costs fall. In each round the operators
-- of a cut, of which every plan has one, get cheaper by what the cheapest of them costs.
use Rattle.std.specs.Prelude.{ℕ, zero, suc, ◌+◌, ◌-◌, ◌==◌, nat_lt, Bool, true, false, not, ◌&&◌, ◌||◌, Option, Some, None, option_map, List, [], ◌∷◌, length, map, if◌then◌else◌}
use Rattle.std.specs.FinSet as set
use Rattle.std.specs.List.{filter, flat_map, list_all, list_any}
use Rattle.std.specs.Option.{is_some, option_to_list, unwrap_or}
use Rattle.mp_list.specs.First.{leftmost}
use Rattle.mp_sets.specs.Numbers.{Numbers}
use Rattle.mp_task.specs.AgentTask.{AgentTask}
use Rattle.mp_task.specs.Projected.{projected, projected_state}
use Rattle.mp_task.specs.Strips.{Operator}
use Rattle.mp_estimates.specs.Estimates.{lesser, Values}
use Rattle.mp_relaxed.specs.Values.{fact_values, greatest}

-- whether operators lead to a fact from a set of facts, where nothing becomes false: whether it has a value there
unfoldable pub leads : List Operator → Numbers → ℕ → Bool
leads operators s x = is_some (fact_values operators s x)

-- an operator without a cost that makes some facts true where others are
abbrev pub edge : List ℕ → List ℕ → Operator
edge from to = record { pre = from; add = to; del = []; cost = 0 }

-- whether a value is above another one, where none is above every number
abbrev pub is_above : Option ℕ → Option ℕ → Bool
is_above None None = false
is_above None (Some n) = true
is_above (Some m) None = false
is_above (Some m) (Some n) = nat_lt n m

-- a precondition comes before another one as a support: its value is greater, or as great and its number lower
abbrev pub supports_before : Values → ℕ → ℕ → Bool
supports_before values x y =
    is_above (values x) (values y) || (not (is_above (values y) (values x)) && nat_lt x y)

-- The support of an operator with these preconditions: the one that comes first. It stands in a list alone, which is
-- empty where there are no preconditions, so that the operator has its edges from the start.
unfoldable pub support : Values → List ℕ → List ℕ
support values pre = option_to_list (leftmost (supports_before values) None pre)

-- whether all of some facts have values
abbrev pub all_valued : Values → List ℕ → Bool
all_valued values xs = list_all (λ x. is_some (values x)) xs

-- the operators whose preconditions all have values; each has edges from its support to its adds
abbrev pub possible : Values → List Operator → List Operator
possible values operators = filter (λ o. all_valued values o.pre) operators

-- the edges of operators without a cost, turned round
abbrev pub turned : Values → List Operator → List Operator
turned values operators =
    flat_map (λ o. map (λ y. edge (y ∷ []) (support values o.pre)) o.add)
    (filter (λ o. o.cost == 0) (possible values operators))

-- The goal zone: the facts from which edges without a cost lead to the support of the goals.
unfoldable pub in_zone : Values → List Operator → List ℕ → ℕ → Bool
in_zone values operators goals =
    leads (turned values operators) (set.from_list (support values goals))

-- the edges that do not lead to some facts
abbrev pub avoiding : (ℕ → Bool) → Values → List Operator → List Operator
avoiding avoided values operators =
    map (λ o. edge (support values o.pre) (filter (λ x. not (avoided x)) o.add)) (possible values operators)

-- The near side: the facts to which edges lead from the state, or from the start, that do not enter the goal zone.
unfoldable pub is_near : Values → List Operator → List ℕ → Numbers → ℕ → Bool
is_near values operators goals s =
    leads (avoiding (in_zone values operators goals) values operators) s

-- An operator is in the cut where it has an edge from the near side, or from the start, into the goal zone.
unfoldable pub in_cut : Values → List Operator → List ℕ → Numbers → Operator → Bool
in_cut values operators goals s o =
    all_valued values o.pre
    && (list_all (is_near values operators goals s) (support values o.pre)
    && list_any (in_zone values operators goals) o.add)

-- the least of some costs
abbrev pub least : List ℕ → Option ℕ
least [] = None
least (cost ∷ costs) = lesser (Some cost) (least costs)

-- what the cut costs: the least that an operator of it does
unfoldable pub cut_cost : Values → List Operator → List ℕ → Numbers → ℕ
cut_cost values operators goals s =
    unwrap_or (least (map (λ o. o.cost) (filter (in_cut values operators goals s) operators))) 0

-- operators at other costs
abbrev pub priced_by : (Operator → ℕ) → List Operator → List Operator
priced_by cost operators = map {A = Operator} (λ o. record o { cost = cost o }) operators

-- operators where those of which something holds cost so much less
abbrev pub cheaper_where : (Operator → Bool) → ℕ → List Operator → List Operator
cheaper_where such by operators = priced_by (λ o. if such o then o.cost - by else o.cost) operators

-- the operators after a round: those of the cut are cheaper by what it costs
unfoldable pub lowered : Values → List Operator → List ℕ → Numbers → List Operator
lowered values operators goals s =
    cheaper_where (in_cut values operators goals s) (cut_cost values operators goals s) operators

-- whether something is left to be paid
abbrev pub is_positive : Option ℕ → Bool
is_positive None = false
is_positive (Some n) = nat_lt 0 n

-- What the cuts of some rounds cost together. Each round has values anew, and where the goals cost nothing, none follows.
unfoldable pub cuts : ℕ → List Operator → List ℕ → Numbers → ℕ
cuts zero operators goals s = 0
cuts (suc rounds) operators goals s =
    let values : Values = fact_values operators s in
    if is_positive (greatest values goals) then
    cut_cost values operators goals s + cuts rounds (lowered values operators goals s) goals s
    else 0

-- LM-cut of a state for some goals: none where hmax is none. A round for each operator is enough, since each round
-- leaves one more operator without a cost.
abbrev pub lmcut_of : List Operator → List ℕ → Numbers → Option ℕ
lmcut_of operators goals s =
    option_map (λ _. cuts (length operators) operators goals s) (greatest (fact_values operators s) goals)

-- the heuristic on an agent's projected problem
abbrev pub lmcut : AgentTask → Numbers → Numbers → Option ℕ
lmcut t publics privates =
    lmcut_of (projected t).operators (projected t).goals (projected_state t publics privates)

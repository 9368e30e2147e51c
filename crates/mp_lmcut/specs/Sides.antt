-- The sides of a cut in a search by marks: what is to be marked for each fact.
use Rattle.std.specs.Prelude.{◌≡◌, ℕ, map, Option, Some, suc, ◌-◌, ◌==◌, ◌<◌, ◌≤◌, ◌&&◌, ◌||◌, Bool, true, false, List, [], ◌∷◌, length, All, Contains, slice_index_or, if◌then◌else◌}
use Rattle.std.specs.List.{filter, list_all, list_any}
use Rattle.mp_sets.specs.Numbers.{Numbers}
use Rattle.mp_task.specs.Strips.{Operator}
use Rattle.mp_relaxed.specs.Relaxed.{HasAdders, RelaxedProblem, operator_at, priced}
use Rattle.mp_estimates.specs.Estimates.{Values}
use Rattle.mp_relaxed.specs.Values.{adds, fact_values, greatest}
use Rattle.mp_lmcut.specs.Cut.{all_valued, in_zone, is_above, is_near, least, priced_by, support}
use Rattle.mp_lmcut.specs.Marked.{is_marked}

-- a fact is the support of preconditions
abbrev pub Supports : Values → List ℕ → ℕ → Type 0
Supports values pre x = list_any (λ y. y == x) (support values pre) ≡ true

-- an operator's edges have no cost
abbrev pub is_free : Values → Operator → Bool
is_free values o = (o.cost == 0) && all_valued values o.pre

-- the support of an operator without a cost is marked
abbrev pub IsTurned : Values → Operator → List Bool → Type 0
IsTurned values o flags =
    is_free values o ≡ true → list_all (is_marked flags) (support values o.pre) ≡ true

-- and so for each one that adds a fact
abbrev pub TurnsBack : Values → List Operator → ℕ → List Bool → Type 0
TurnsBack values operators x flags =
    All (λ o. adds o x ≡ true → IsTurned values o flags) operators

-- and the fact stands in a list
abbrev pub IsFollowed : Values → List Operator → List ℕ → ℕ → List Bool → Type 0
IsFollowed values operators inside x flags = TurnsBack values operators x flags × Contains inside x

-- marks are those of the goal zone
abbrev pub IsZone : Values → List Operator → List ℕ → List Bool → Type 0
IsZone values operators goals flags =
    (x : ℕ) → is_marked flags x ≡ in_zone values operators goals x

-- a list has the facts of the goal zone, and no others
pub record HasZone (values : Values) (operators : List Operator) (goals : List ℕ) (facts : ℕ) (inside : List ℕ) : Type 0 where
  pub below : All (λ x. x < facts) inside
  pub alone : All (λ x. in_zone values operators goals x ≡ true) inside
  pub all : (x : ℕ) → in_zone values operators goals x ≡ true → Contains inside x

-- a fact is cheaper than a number
abbrev pub is_cheap : Values → ℕ → ℕ → Bool
is_cheap values most x = is_above (Some most) (values x)

-- an operator has its edges from the start, or from a cheap fact
abbrev pub is_source : Values → ℕ → Operator → Bool
is_source values most o =
    all_valued values o.pre && list_all (is_cheap values most) (support values o.pre)

-- a fact is added by such an operator
pub record HasSource (values : Values) (most : ℕ) (operators : List Operator) (x : ℕ) : Type 0 where
  pub k : ℕ
  pub within : k < length operators
  pub adding : adds (operator_at operators k) x ≡ true
  pub source : is_source values most (operator_at operators k) ≡ true

-- a fact is the support of an operator, and dear, and outside the zone
pub record IsTracedFrom (values : Values) (most : ℕ) (zone : List Bool) (o : Operator) (y : ℕ) : Type 0 where
  pub valued : all_valued values o.pre ≡ true
  pub supports : Supports values o.pre y
  pub outside : is_marked zone y ≡ false
  pub dear : is_cheap values most y ≡ false

-- and the operator adds another fact
pub record IsBehind (values : Values) (most : ℕ) (operators : List Operator) (zone : List Bool) (x y : ℕ) : Type 0 where
  pub k : ℕ
  pub within : k < length operators
  pub adding : adds (operator_at operators k) x ≡ true
  pub traced : IsTracedFrom values most zone (operator_at operators k) y

-- the support of an operator whose preconditions have values is marked, unless it is in the zone
abbrev pub IsTraced : Values → List Bool → Operator → List Bool → Type 0
IsTraced values zone o flags =
    all_valued values o.pre ≡ true
    → list_all (λ x. is_marked zone x || is_marked flags x) (support values o.pre) ≡ true

-- and so for each one that adds a fact; none of them has its edges from the start or from a cheap fact
abbrev pub TracesBack : Values → ℕ → List Operator → List Bool → ℕ → List Bool → Type 0
TracesBack values most operators zone x flags =
    All (λ o. adds o x ≡ true → (is_source values most o ≡ false) × IsTraced values zone o flags) operators

-- values are those of facts for a state, where the goals cost so much, and something
pub record AreValuesFor (values : Values) (operators : List Operator) (goals : List ℕ) (most : ℕ) (s : Numbers) : Type 0 where
  pub same : (x : ℕ) → values x ≡ fact_values operators s x
  pub paid : greatest values goals ≡ Some most
  pub some : 1 ≤ most

-- marks are of near facts alone
abbrev pub AreNear : Values → List Operator → List ℕ → Numbers → List Bool → Type 0
AreNear values operators goals s flags =
    (y : ℕ) → is_marked flags y ≡ true → is_near values operators goals s y ≡ true

-- and so for each state with these values
abbrev pub AreNearFacts : Values → List Operator → List ℕ → ℕ → List Bool → Type 0
AreNearFacts values operators goals most flags =
    (s : Numbers)
    → AreValuesFor values operators goals most s
    → AreNear values operators goals s flags

-- an operator has edges from the near side, or from the start
abbrev pub is_from_near : Values → List Operator → List ℕ → Numbers → Operator → Bool
is_from_near values operators goals s o =
    all_valued values o.pre && list_all (is_near values operators goals s) (support values o.pre)

-- for each fact the operators that add it
pub record AreAdders (operators : List Operator) (facts : ℕ) (lists : List (List ℕ)) : Type 0 where
  pub sized : length lists ≡ facts
  pub all : (x : ℕ) → HasAdders operators x (slice_index_or lists x [])
  pub below : All (All (λ k. k < length operators)) lists

-- a list has operators of which something holds, and a second one what each of them costs
pub record AreListed (such : Operator → Bool) (operators : List Operator) (cut costs : List ℕ) : Type 0 where
  pub below : All (λ k. k < length operators) cut
  pub inside : All (λ k. such (operator_at operators k) ≡ true) cut
  pub paid : costs ≡ map (λ k. (operator_at operators k).cost) cut

-- operators of which something holds, and their costs, have been put into two lists
pub record HaveNoted (such : Operator → Bool) (operators : List Operator) (cut costs new_cut new_costs : List ℕ) : Type 0 where
  pub kept : (k : ℕ) → Contains cut k → Contains new_cut k
  pub listed : AreListed such operators cut costs → AreListed such operators new_cut new_costs

-- each operator that adds a fact, and of which something holds, is in a list
abbrev pub AreNoted : (Operator → Bool) → List Operator → ℕ → List ℕ → Type 0
AreNoted such operators x cut =
    (k : ℕ)
    → k < length operators
    → adds (operator_at operators k) x ≡ true
    → such (operator_at operators k) ≡ true
    → Contains cut k

-- operators where those whose numbers pass a test cost so much less
abbrev pub lowered_at : (ℕ → Bool) → ℕ → List Operator → List Operator
lowered_at chosen by [] = []
lowered_at chosen by (o ∷ operators) =
    record o { cost = if chosen 0 then o.cost - by else o.cost }
    ∷ lowered_at (λ k. chosen (suc k)) by operators

-- the least cost of the operators of which something holds
abbrev pub least_where : (Operator → Bool) → List Operator → Option ℕ
least_where such operators = least (map (λ o. o.cost) (filter such operators))

-- a problem whose operators have no cost
abbrev pub costless : RelaxedProblem → RelaxedProblem
costless r = record r { operators = priced_by (λ _. 0) r.operators }

-- a problem at other costs, one for each operator
abbrev pub repriced : List ℕ → RelaxedProblem → RelaxedProblem
repriced costs r = record r { operators = priced costs r.operators }

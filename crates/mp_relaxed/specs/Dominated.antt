-- Operators that others dominate: without them, values of facts stay the same, and so do cuts and what these cost.
use Rattle.std.specs.Prelude.{◌≡◌, ◌⊎◌, ℕ, ◌<◌, ◌≤◌, List, [], length, All, Contains}
use Rattle.mp_task.specs.Strips.{Operator}
use Rattle.mp_relaxed.specs.Relaxed.{RelaxedProblem, operator_at}

-- an operator needs and adds what another one does, at no greater cost
pub record Dominates (q o : Operator) : Type 0 where
  pub needed : q.pre ≡ o.pre
  pub added : q.add ≡ o.add
  pub cheap : q.cost ≤ o.cost

-- an operator of a list dominates another one
pub record HasDominating (operators : List Operator) (o : Operator) : Type 0 where
  pub q : Operator
  pub among : Contains operators q
  pub dominates : Dominates q o

-- each of some operators adds nothing, or one of a list dominates it
abbrev pub AreDominated : List Operator → List Operator → Type 0
AreDominated operators others = All (λ o. (o.add ≡ []) ⊎ HasDominating operators o) others

-- operators of two lists dominate one another
pub record AreEquivalent (operators others : List Operator) : Type 0 where
  pub onward : AreDominated operators others
  pub back : AreDominated others operators

-- a problem is another one with other operators, which dominate those of it and are dominated by them
pub record IsEquivalent (r other : RelaxedProblem) : Type 0 where
  pub same : r ≡ record other { operators = r.operators }
  pub operators : AreEquivalent r.operators other.operators

-- an operator adds nothing, or one whose number a list has dominates it
abbrev pub IsKept : List Operator → List ℕ → ℕ → Type 0
IsKept operators kept k =
    ((operator_at operators k).add ≡ [])
    ⊎ ((j : ℕ) × Contains kept j × Dominates (operator_at operators j) (operator_at operators k))

-- for so many operators, no more of them are kept
pub record AreKept (operators : List Operator) (n : ℕ) (kept : List ℕ) : Type 0 where
  pub below : All (λ j. j < length operators) kept
  pub few : length kept ≤ n
  pub all : (k : ℕ) → k < n → IsKept operators kept k

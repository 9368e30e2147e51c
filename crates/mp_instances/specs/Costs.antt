-- What an action costs (PDDL 3.1, action costs).
use Rattle.std.specs.Prelude.{ℕ, ◌+◌, ◌≤◌, List, [], ◌∷◌, length, find, All, Option, Some, None, option_and_then}
use Rattle.std.specs.Option.{option_map}
use Rattle.mp_lifted.specs.declared.lifted.Amount.{Amount}
use Rattle.mp_lifted.specs.declared.lifted.Amount.TheVariants.{Number, Value, Missing}
use Rattle.mp_lifted.specs.declared.lifted.GroundAtom.{GroundAtom}
use Rattle.mp_lifted.specs.declared.lifted.GroundValue.{GroundValue}
use Rattle.mp_lifted.specs.declared.lifted.LiftedAction.{LiftedAction}
use Rattle.mp_lifted.specs.declared.lifted.LiftedFactor.{LiftedFactor}
use Rattle.mp_lifted.specs.Atoms.{atom_at, same_atom}

-- the value of a function at objects: none where it has none
abbrev pub value_of : List GroundValue → GroundAtom → Option ℕ
value_of values function = option_map (λ v. v.cost) (find (λ v. same_atom v.of function) values)

abbrev pub amount_at : List GroundValue → List ℕ → Amount → Option ℕ
amount_at values objects (Number cost) = Some cost
amount_at values objects (Value function) = value_of values (atom_at objects function)
amount_at values objects Missing = None

-- the sum of amounts: none where a value is missing
abbrev pub cost_at : List GroundValue → List ℕ → List Amount → Option ℕ
cost_at values objects [] = Some 0
cost_at values objects (amount ∷ others) =
    option_and_then (λ cost. option_map (λ rest. cost + rest) (cost_at values objects others))
    (amount_at values objects amount)

-- an amount that is written as a number is at most 1,000,000
abbrev pub IsSmall : Amount → Type 0
IsSmall (Number cost) = cost ≤ 1000000
IsSmall (Value function) = Unit {0}
IsSmall Missing = Unit {0}

-- an action has at most 16 amounts, and none of them is above 1,000,000
pub record IsCheap (action : LiftedAction) : Type 0 where
  pub count : length action.amounts ≤ 16
  pub small : All IsSmall action.amounts

-- all costs of a factor keep these limits
pub record HasSmallCosts (factor : LiftedFactor) : Type 0 where
  pub actions : All IsCheap factor.actions
  pub values : All (λ v. v.cost ≤ 1000000) factor.values

-- What an action costs at objects, in numbers.
use Rattle.std.specs.Prelude.{ℕ, ◌+◌, ◌≡◌, List, [], ◌∷◌, map, find, Option, Some, None, option_and_then}
use Rattle.std.specs.Map.{lookup}
use Rattle.std.specs.Option.{option_map}
use Rattle.mp_forms.specs.Limits.{name_of_term}
use Rattle.mp_forms.specs.declared.init_values.Value.{Value as FunctionValue}
use Rattle.mp_sexp.specs.Numbers.{number_in}
use Rattle.mp_joint.specs.Fact.{Text}
use Rattle.mp_checker.specs.declared.fact.FactNumbers.{FactNumbers}
use Rattle.mp_checker.specs.declared.numbered.ObjectNumber.{ObjectNumber}
use Rattle.mp_checker.specs.declared.numbered.Amount.{Amount}
use Rattle.mp_checker.specs.declared.numbered.Amount.TheVariants.{Number, Value, Missing}
use Rattle.mp_checker.specs.At.{function_at}
use Rattle.mp_checker.specs.Keys.{same_numbers}

-- a function at the objects for which a file has a value
abbrev pub numbers_of_value : List Text → FunctionValue → FactNumbers
numbers_of_value names value =
    record {
      owner = None;
      symbol = number_in names value.of.word.name;
      objects = map (λ t. number_in names (name_of_term t)) value.of.terms;
    }

-- the first value of a function at objects
abbrev pub value_in : List Text → List FunctionValue → FactNumbers → Option ℕ
value_in names values f =
    option_map (λ v. v.cost) (find (λ v. same_numbers (numbers_of_value names v) f) values)

-- each function with a value is kept with the first one, and no other
abbrev pub HasValues : List Text → List (FactNumbers × ℕ) → List FunctionValue → Type 0
HasValues names entries values = (f : FactNumbers) → lookup (same_numbers f) entries ≡ value_in names values f

abbrev pub amount_at : List (FactNumbers × ℕ) → List ObjectNumber → Amount → Option ℕ
amount_at entries args (Number cost) = Some cost
amount_at entries args (Value function) = lookup (same_numbers (function_at args function)) entries
amount_at entries args Missing = None

-- the sum of amounts: none where a value is missing
abbrev pub cost_at : List (FactNumbers × ℕ) → List ObjectNumber → List Amount → Option ℕ
cost_at entries args [] = Some 0
cost_at entries args (amount ∷ others) =
    option_and_then (λ cost. option_map (λ rest. cost + rest) (cost_at entries args others))
    (amount_at entries args amount)

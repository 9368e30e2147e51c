-- Objects that may stand for parameters, by flags for each parameter and each object in object order.
use Rattle.std.specs.Prelude.{Bool, true, false, ◌&&◌, List, [], ◌∷◌, map, slice_index_or}
use Rattle.std.specs.Option.{option_map_or}
use Rattle.mp_sexp.specs.Numbers.{number_in, place_in}
use Rattle.mp_joint.specs.Fact.{Text}
use Rattle.mp_checker.specs.declared.numbered.ObjectNumber.{ObjectNumber}
use Rattle.mp_checker.specs.At.{nothing}

-- an object of the factor that has its flag
abbrev pub is_flagged : List Text → List Bool → Text → Bool
is_flagged objects flags name = option_map_or (λ place. slice_index_or flags place false) (place_in objects name) false

-- one for each parameter
abbrev pub are_flagged : List Text → List (List Bool) → List Text → Bool
are_flagged objects [] [] = true
are_flagged objects [] (name ∷ names) = false
are_flagged objects (flags ∷ others) [] = false
are_flagged objects (flags ∷ others) (name ∷ names) = is_flagged objects flags name && are_flagged objects others names

-- objects in numbers
abbrev pub numbers_at : List Text → List ObjectNumber → List Text → List ObjectNumber
numbers_at objects numbers names = map (λ name. slice_index_or numbers (number_in objects name) nothing) names

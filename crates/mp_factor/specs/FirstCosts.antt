-- Values at the start that are looked up by the names of their function. No public clause cites this module.
use Rattle.std.specs.Prelude.{◌≡◌, ℕ, List, [], ◌∷◌, map, Option, Some, None, Result, Ok, Err, if◌then◌else◌}
use Rattle.std.specs.Map.{lookup}
use Rattle.mp_sexp.specs.Node.{Node}
use Rattle.mp_forms.specs.declared.fault.Fault.{Fault}
use Rattle.mp_forms.specs.declared.init_values.Fact.{Fact}
use Rattle.mp_forms.specs.declared.init_values.Fact.TheVariants.{Holds, Gives}
use Rattle.mp_forms.specs.Limits.{names_of_atom}
use Rattle.mp_forms.specs.Parts.{parts, word_of}
use Rattle.mp_forms.specs.Rules.Init.{Given, same_names}

-- the cost that the first of these gives to the function of these names
unfoldable pub first_cost : List (List ℕ) → List Given → Option ℕ
first_cost names [] = None
first_cost names (g ∷ gs) = if same_names (names_of_atom g.value.of) names then Some g.value.cost else first_cost names gs

-- entries of a map that has the cost that the first of these gives, for each function
abbrev pub AreFirst : List (List (List ℕ) × ℕ) → List Given → Type 0
AreFirst entries given = (names : List (List ℕ)) → lookup (same_names names) entries ≡ first_cost names given

-- what is found to be given
abbrev pub given_by : Result Fact Fault → List Given
given_by (Ok (Holds atom)) = []
given_by (Ok (Gives value at)) = record { value = value; at = at } ∷ []
given_by (Err fault) = []

-- the words of a list
abbrev pub words_in : Node → List (List ℕ)
words_in node = map word_of (parts node)

-- the words of the second of these members, or of the whole where there is none
abbrev pub second_words : Node → List Node → List (List ℕ)
second_words whole [] = words_in whole
second_words whole (first ∷ []) = words_in whole
second_words whole (first ∷ second ∷ others) = words_in second

-- the words of the function that is given a value here
abbrev pub function_words : Node → List (List ℕ)
function_words node = second_words node (parts node)

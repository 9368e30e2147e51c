-- Facts and values at the start (PDDL 3.1 costs): atoms, and `(= (NAME NAME ..) NUMBER)`.
use Rattle.std.specs.Prelude.{ℕ, ◌==◌, not, Bool, false, List, [], ◌∷◌, ◌++◌, if◌then◌else◌, codes}
use Rattle.std.specs.Cmp.Lexicographic.{pointwise}
use Rattle.std.specs.List.{flat_map}
use Rattle.std.specs.Str.{bytes_eq}
use Rattle.mp_sexp.specs.declared.tree.Place.{Place}
use Rattle.mp_sexp.specs.Node.{Node}
use Rattle.mp_forms.specs.declared.atom_values.Atom.{Atom}
use Rattle.mp_forms.specs.declared.init_values.Value.{Value}
use Rattle.mp_forms.specs.declared.init_values.Fact.{Fact}
use Rattle.mp_forms.specs.declared.init_values.Start.{Start}
use Rattle.mp_forms.specs.declared.init_values.Fact.TheVariants.{Holds, Gives}
use Rattle.mp_forms.specs.Parts.{place_of, parts, is_headed}
use Rattle.mp_forms.specs.Reading.{Reading, Says, Wrong, misshapen, costly, said, both, besides, each, nothing_more, all_right}
use Rattle.mp_forms.specs.Rules.Words.{name_rule}
use Rattle.mp_forms.specs.Rules.Costs.{cost_rule}
use Rattle.mp_forms.specs.Rules.Atoms.{object_rule, applied_rule, atom_rule}
use Rattle.mp_forms.specs.Limits.{names_of_atom}

-- this function has this cost, which is said at this place
abbrev pub gives : Place → Atom → ℕ → Fact
gives at function cost = Gives record { of = function; cost = cost } at

abbrev pub value_members : Place → List Node → Reading Fact
value_members whole (sign ∷ function ∷ number ∷ extra) =
    besides (nothing_more extra)
    (both (gives (place_of number)) (applied_rule name_rule object_rule function) (cost_rule number))
value_members whole _ = misshapen whole

-- an atom, or `(= (NAME NAME ..) NUMBER)`
unfoldable pub fact_rule : Node → Reading Fact
fact_rule node =
    if is_headed (codes "=") node then value_members (place_of node) (parts node) else said Holds (atom_rule node)

-- ---- a function has one value

-- what a member says of a value, and where
pub record Given : Type 0 where
  pub value : Value
  pub at : Place

abbrev pub given_in : Reading Fact → List Given
given_in (Says (Holds atom)) = []
given_in (Says (Gives value at)) = record { value = value; at = at } ∷ []
given_in (Wrong fault others) = []

abbrev pub same_names : List (List ℕ) → List (List ℕ) → Bool
same_names = pointwise bytes_eq

-- the first of these values that is of the same function is another one
unfoldable pub differs : List Given → Given → Bool
differs [] g = false
differs (e ∷ es) g =
    if same_names (names_of_atom e.value.of) (names_of_atom g.value.of) then not (e.value.cost == g.value.cost)
    else differs es g

-- those of some values that differ from an earlier one of the same function
unfoldable pub differing : List Given → List Given → List Given
differing before [] = []
differing before (g ∷ gs) = (if differs before g then g ∷ [] else []) ++ differing (before ++ g ∷ []) gs

-- the values of members, as far as these are well-formed
unfoldable pub given : List Node → List Given
given nodes = flat_map (λ node. given_in (fact_rule node)) nodes

-- ---- the facts and the values

abbrev pub atom_in : Fact → List Atom
atom_in (Holds atom) = atom ∷ []
atom_in (Gives value at) = []

abbrev pub value_in : Fact → List Value
value_in (Holds atom) = []
value_in (Gives value at) = value ∷ []

abbrev pub start_of : List Fact → Start
start_of facts = record { facts = flat_map atom_in facts; values = flat_map value_in facts }

abbrev pub empty_start : Start
empty_start = record { facts = []; values = [] }

-- FACT .., where no function has two values
unfoldable pub init_rule : List Node → Reading Start
init_rule nodes =
    besides (all_right (λ g. costly g.at) (differing [] (given nodes))) (said start_of (each fact_rule nodes))

-- Effects (STRIPS with the action costs of PDDL 3.1): adds, deletes and increases of the total cost.
use Rattle.std.specs.Prelude.{List, [], ◌∷◌, if◌then◌else◌, codes}
use Rattle.std.specs.List.{flat_map}
use Rattle.mp_sexp.specs.declared.tree.Place.{Place}
use Rattle.mp_sexp.specs.Node.{Node}
use Rattle.mp_forms.specs.declared.atom_values.Atom.{Atom}
use Rattle.mp_forms.specs.declared.effect_values.Increase.{Increase}
use Rattle.mp_forms.specs.declared.effect_values.Increase.TheVariants.{Number, Function}
use Rattle.mp_forms.specs.declared.effect_values.Change.{Change}
use Rattle.mp_forms.specs.declared.effect_values.Effect.{Effect}
use Rattle.mp_forms.specs.declared.effect_values.Change.TheVariants.{Add, Delete, Grow}
use Rattle.mp_forms.specs.Limits.{most_increases}
use Rattle.mp_forms.specs.Parts.{is_word, place_of, parts, is_list}
use Rattle.mp_forms.specs.Conjuncts.{conjuncts, is_negation, is_increase}
use Rattle.mp_forms.specs.Reading.{Reading, misshapen, unsupported, costly, said, besides, each, nothing_more, at_most}
use Rattle.mp_forms.specs.Rules.Words.{name_rule}
use Rattle.mp_forms.specs.Rules.Costs.{cost_rule}
use Rattle.mp_forms.specs.Rules.Atoms.{term_rule, applied_rule, atom_rule}
use Rattle.mp_forms.specs.Rules.Conditions.{negated_rule}

abbrev pub target_members : Node → List Node → Reading (Unit {0})
target_members head [] = unsupported head
target_members head (function ∷ extra) =
    if is_word (codes "total-cost") function then nothing_more extra else unsupported head

-- what is increased, by the word `increase`: `(total-cost)` alone
unfoldable pub target_rule : Node → Node → Reading (Unit {0})
target_rule head node =
    if is_word (codes "total-cost") node then misshapen (place_of node) else target_members head (parts node)

-- by how much: NUMBER or `(NAME TERM ..)`
unfoldable pub amount_rule : Node → Reading Increase
amount_rule node =
    if is_list node then said Function (applied_rule name_rule term_rule node) else said Number (cost_rule node)

abbrev pub increase_members : Place → List Node → Reading Increase
increase_members whole (head ∷ target ∷ amount ∷ extra) =
    besides (nothing_more extra) (besides (target_rule head target) (amount_rule amount))
increase_members whole _ = misshapen whole

-- `(increase (total-cost) AMOUNT)`
unfoldable pub increase_rule : Node → Reading Increase
increase_rule node = increase_members (place_of node) (parts node)

-- an atom, `(not ATOM)` or an increase
unfoldable pub change_rule : Node → Reading Change
change_rule node =
    if is_negation node then said Delete (negated_rule node)
    else (if is_increase node then said Grow (increase_rule node) else said Add (atom_rule node))

-- an increase where there may be no more
abbrev pub surplus_increase : Node → Reading (Unit {0})
surplus_increase node = costly (place_of node)

-- what the changes add, delete and increase

abbrev pub add_in : Change → List Atom
add_in (Add atom) = atom ∷ []
add_in (Delete atom) = []
add_in (Grow increase) = []

abbrev pub delete_in : Change → List Atom
delete_in (Add atom) = []
delete_in (Delete atom) = atom ∷ []
delete_in (Grow increase) = []

abbrev pub increase_in : Change → List Increase
increase_in (Add atom) = []
increase_in (Delete atom) = []
increase_in (Grow increase) = increase ∷ []

abbrev pub adds : List Change → List Atom
adds changes = flat_map add_in changes

abbrev pub deletes : List Change → List Atom
deletes changes = flat_map delete_in changes

abbrev pub increases : List Change → List Increase
increases changes = flat_map increase_in changes

abbrev pub effect_of : List Change → Effect
effect_of changes = record { add = adds changes; del = deletes changes; increases = increases changes }

abbrev pub no_effect : Effect
no_effect = record { add = []; del = []; increases = [] }

-- EFFECT: `()`, a change, or `(and EFFECT ..)`
unfoldable pub effect_rule : Node → Reading Effect
effect_rule node =
    besides (at_most most_increases is_increase surplus_increase (conjuncts node))
    (said effect_of (each change_rule (conjuncts node)))

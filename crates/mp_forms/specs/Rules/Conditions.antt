-- Literals and conditions (STRIPS with negative preconditions, in the spelling of PDDL 2.1).
use Rattle.std.specs.Prelude.{Bool, true, false, List, if◌then◌else◌}
use Rattle.mp_sexp.specs.Node.{Node}
use Rattle.mp_forms.specs.declared.atom_values.Atom.{Atom}
use Rattle.mp_forms.specs.declared.literal.Literal.{Literal}
use Rattle.mp_forms.specs.Parts.{place_of, parts, rest_of}
use Rattle.mp_forms.specs.Conjuncts.{conjuncts, is_negation}
use Rattle.mp_forms.specs.Reading.{Reading, said, each, alone}
use Rattle.mp_forms.specs.Rules.Atoms.{atom_rule}

abbrev pub literal : Bool → Atom → Literal
literal positive atom = record { positive = positive; atom = atom }

-- `(not ATOM)`
unfoldable pub negated_rule : Node → Reading Atom
negated_rule node = alone atom_rule (place_of node) (rest_of (parts node))

-- an atom or `(not ATOM)`
unfoldable pub literal_rule : Node → Reading Literal
literal_rule node =
    if is_negation node then said (literal false) (negated_rule node) else said (literal true) (atom_rule node)

-- COND: `()`, a literal, or `(and COND ..)`
unfoldable pub condition_rule : Node → Reading (List Literal)
condition_rule node = each literal_rule (conjuncts node)

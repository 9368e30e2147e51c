-- Terms and atoms (PDDL 2.1).
use Rattle.std.specs.Prelude.{List, [], ◌∷◌, if◌then◌else◌}
use Rattle.mp_sexp.specs.declared.tree.Place.{Place}
use Rattle.mp_sexp.specs.Node.{Node}
use Rattle.mp_forms.specs.declared.word.Word.{Word}
use Rattle.mp_forms.specs.declared.atom_values.Term.{Term}
use Rattle.mp_forms.specs.declared.atom_values.Term.TheVariants.{Variable, Object}
use Rattle.mp_forms.specs.declared.atom_values.Atom.{Atom}
use Rattle.mp_forms.specs.Parts.{place_of, parts, is_variable_word, is_fixed_word}
use Rattle.mp_forms.specs.Reading.{Reading, Says, misshapen, unsupported, said, both, each}
use Rattle.mp_forms.specs.Rules.Words.{word_at, name_rule}

-- the name of an object
abbrev pub object_rule : Node → Reading Term
object_rule node = said Object (name_rule node)

-- TERM: a variable or a name
unfoldable pub term_rule : Node → Reading Term
term_rule node = if is_variable_word node then Says (Variable (word_at node)) else object_rule node

-- the name of a predicate: a word with a meaning of its own begins nothing that is supported in its place
unfoldable pub predicate_rule : Node → Reading Word
predicate_rule node = if is_fixed_word node then unsupported node else name_rule node

abbrev pub applied : Word → List Term → Atom
applied word terms = record { word = word; terms = terms }

abbrev pub applied_members : (Node → Reading Word) → (Node → Reading Term) → Place → List Node → Reading Atom
applied_members name term whole [] = misshapen whole
applied_members name term whole (head ∷ terms) = both applied (name head) (each term terms)

-- `(NAME TERM ..)`, with a name and terms of these kinds
unfoldable pub applied_rule : (Node → Reading Word) → (Node → Reading Term) → Node → Reading Atom
applied_rule name term node = applied_members name term (place_of node) (parts node)

-- an atom
abbrev pub atom_rule : Node → Reading Atom
atom_rule node = applied_rule predicate_rule term_rule node

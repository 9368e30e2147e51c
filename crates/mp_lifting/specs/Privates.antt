-- Which atoms of a file are private (the privacy rule of factored MA-PDDL).
use Rattle.std.specs.Prelude.{Bool, []}
use Rattle.mp_forms.specs.declared.atom_values.Atom.{Atom}
use Rattle.mp_joint.specs.Fact.{Privates, is_private}
use Rattle.mp_joint.specs.Grounding.{objects_of}
use Rattle.mp_lifting.specs.declared.privates.PrivateNames.{PrivateNames}

-- the private names that are looked up
abbrev pub private_in : PrivateNames → Privates
private_in names = record { predicates = names.predicates; objects = names.objects }

-- an atom without variables is private where its predicate or one of its objects is
abbrev pub is_private_atom : Privates → Atom → Bool
is_private_atom privates atom = is_private privates atom.word.name (objects_of [] [] atom.terms)

use Rattle.std.proofs.Common.{◌≡◌, map, take}
use Rattle.mp_forms.specs.Limits.{name_of_term}
use Rattle.mp_forms.specs.declared.atom_values.Term.{Term}
use Rattle.mp_sexp.specs.Numbers.{number_in}
use Rattle.mp_checker.proofs.values.numbers_of_terms.Given as goal

abbrev pub invariant-loop-term : goal.invariant-loop-term
invariant-loop-term l = l.numbers ≡ map (λ (t : Term). number_in l.names (name_of_term t)) (take l.term-index l.terms)

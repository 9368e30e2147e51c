use Rattle.std.proofs.Common.{◌≡◌, ◌++◌, map, take}
use Rattle.mp_forms.specs.Limits.{name_of_term}
use Rattle.mp_checker.proofs.words.add_terms.Given as goal

abbrev pub invariant-loop-term : goal.invariant-loop-term
invariant-loop-term l = l.names ≡ l.fn.names ++ map name_of_term (take l.term-index l.terms)

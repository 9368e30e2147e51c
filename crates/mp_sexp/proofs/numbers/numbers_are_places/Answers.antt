use Rattle.mp_sexp.proofs.NamesAt.{name_at_number, number_below}
use Rattle.mp_sexp.proofs.numbers.numbers_are_places.Goals as goal

pub returns-clause-place : goal.returns-clause-place
returns-clause-place c = name_at_number

pub returns-clause-below : goal.returns-clause-below
returns-clause-below c = number_below

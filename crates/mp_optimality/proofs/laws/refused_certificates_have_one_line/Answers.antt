use Rattle.mp_optimality.proofs.Refused.{no_line, one_line}
use Rattle.mp_optimality.proofs.laws.refused_certificates_have_one_line.Goals as goal

pub returns-clause-one : goal.returns-clause-one
returns-clause-one c = λ team text m n checked.
    one_line c.tasks_are_one.ensures team text checked c.texts_have_one_reading.ensures.first m n

pub returns-clause-none : goal.returns-clause-none
returns-clause-none c = λ team text n checked.
    no_line c.tasks_are_one.ensures team text checked c.texts_have_one_reading.ensures.accepted n

use Rattle.mp_replays.proofs.Refused.{not_refused, one_refused}
use Rattle.mp_replays.proofs.laws.refused_lines_are_one.Goals as goal

pub returns-clause-one : goal.returns-clause-one
returns-clause-one c = λ value limit team text m n checked one other.
    one_refused c.renaming_keeps_tasks.ensures value limit team text checked m n one other

pub returns-clause-none : goal.returns-clause-none
returns-clause-none c = λ value limit team text found n checked replayed refused.
    not_refused c.renaming_keeps_tasks.ensures value limit team text checked found n replayed refused

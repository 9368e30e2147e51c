use Rattle.mp_plan_verdict.proofs.Meanings.{means, valid_if, valid_where}
use Rattle.mp_plan_verdict.proofs.laws.verdicts_are_right.Goals as goal

pub returns-clause-means : goal.returns-clause-means
returns-clause-means c = means

pub returns-clause-valid : goal.returns-clause-valid
returns-clause-valid c = λ factors plan cost. (valid_if factors plan cost, valid_where factors plan cost)

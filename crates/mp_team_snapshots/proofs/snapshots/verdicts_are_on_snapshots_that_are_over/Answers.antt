use Rattle.mp_team_snapshots.proofs.Consequences.{verdict_is_over, verdict_is_rule}
use Rattle.mp_team_snapshots.proofs.snapshots.verdicts_are_on_snapshots_that_are_over.Goals as goal

pub returns-clause-over : goal.returns-clause-over
returns-clause-over c = λ publics tasks w first verdict team is sound there given. verdict_is_over publics tasks team w is sound first verdict there given

pub returns-clause-rule : goal.returns-clause-rule
returns-clause-rule c = λ publics tasks w first verdict team is sound there given. verdict_is_rule publics tasks team w is sound first verdict there given

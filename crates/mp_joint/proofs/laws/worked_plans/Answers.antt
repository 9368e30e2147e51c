use Rattle.std.proofs.Common.{refl}
use Rattle.mp_runs.specs.Run.{run}
use Rattle.mp_joint.proofs.laws.worked_plans.Goals as goal

pub returns-clause-solves : goal.returns-clause-solves
unfolding run
returns-clause-solves c = refl

pub returns-clause-forbidden : goal.returns-clause-forbidden
unfolding run
returns-clause-forbidden c h = absurd h

pub returns-clause-another : goal.returns-clause-another
unfolding run
returns-clause-another c h = absurd h

pub returns-clause-avoided : goal.returns-clause-avoided
unfolding run
returns-clause-avoided c = refl

pub returns-clause-not_avoided : goal.returns-clause-not_avoided
unfolding run
returns-clause-not_avoided c h = absurd (cc)

pub returns-clause-deleted_and_added : goal.returns-clause-deleted_and_added
unfolding run
returns-clause-deleted_and_added c = refl

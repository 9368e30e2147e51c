use Rattle.mp_plans.proofs.WrittenPlans.{read_whole, read_without_counts}
use Rattle.mp_plans.proofs.laws.written_plans_are_read_again.Goals as goal

pub returns-clause-whole : goal.returns-clause-whole
returns-clause-whole c = read_whole

pub returns-clause-uncounted : goal.returns-clause-uncounted
returns-clause-uncounted c = read_without_counts

use Rattle.mp_ground_laws.proofs.Counted.{all_instances, all_counted}
use Rattle.mp_ground_laws.proofs.laws.numbers_are_of_the_factor.Goals as goal

pub returns-clause-instances : goal.returns-clause-instances
returns-clause-instances c = all_instances

pub returns-clause-facts : goal.returns-clause-facts
returns-clause-facts c = all_counted

use Rattle.mp_typing.proofs.Basics.{same, step, through_object}
use Rattle.mp_typing.proofs.Ordering.{transitive}
use Rattle.mp_typing.proofs.laws.types_are_ordered.Goals as goal

pub returns-clause-reflexive : goal.returns-clause-reflexive
returns-clause-reflexive c = λ declared name. same

pub returns-clause-transitive : goal.returns-clause-transitive
returns-clause-transitive c = transitive

pub returns-clause-direct : goal.returns-clause-direct
returns-clause-direct c = λ declared sub sup under. step under same

pub returns-clause-object : goal.returns-clause-object
returns-clause-object c = λ declared name. through_object same

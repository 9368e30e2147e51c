use Rattle.mp_ground_laws.proofs.Ordered.{counted_stand, different_signed, same_order}
use Rattle.mp_ground_laws.proofs.Parts.{parts_of}
use Rattle.mp_ground_laws.proofs.laws.counted_facts_stand_for_named_facts.Goals as goal

pub returns-clause-counted : goal.returns-clause-counted
returns-clause-counted c = counted_stand

pub returns-clause-different : goal.returns-clause-different
returns-clause-different c = λ agent factor view f g h first second same. different_signed agent factor view f g (parts_of factor h.no_fault) first second same

pub returns-clause-order : goal.returns-clause-order
returns-clause-order c = λ agent factor view f g h first second. same_order agent factor view f g (parts_of factor h.no_fault) first second

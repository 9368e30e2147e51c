-- What a check answers.
use Rattle.mp_typing.proofs.Basics.{◌≡◌, List, [], Some, None, sym, Fault, FaultKind, WrongDomain, Unknown, Arity, Twice, is_earlier, leftmost, IsFirst}
use Rattle.mp_typing.specs.declared.refusal.Found.{Found}
use Rattle.mp_typing.specs.Refused.{RestsOn, refusal_by, refusal_of, fault_of}
use Rattle.mp_list.proofs.FirstLemmas.{nothing_found, found_first}
use Rattle.mp_typing.proofs.FirstLemmas.{strict}

pub none_found : (faults : List Fault) → None ≡ leftmost None faults → faults ≡ []
none_found faults e = nothing_found is_earlier faults (sym e)

rests_by : (faults : List Fault) (kind : FaultKind) (found : Found) → IsFirst faults (fault_of kind found) → RestsOn faults (refusal_by kind found)
rests_by faults WrongDomain found first = first
rests_by faults Unknown found first = first
rests_by faults Arity found first = first
rests_by faults Twice found first = first

pub rests_on : (faults : List Fault) (fault : Fault) → Some fault ≡ leftmost None faults → RestsOn faults (refusal_of fault)
rests_on faults fault e = rests_by faults fault.kind fault.found (found_first is_earlier strict faults fault (sym e))

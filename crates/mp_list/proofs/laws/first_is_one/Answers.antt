use Rattle.mp_list.proofs.FirstLemmas.{found_first, nothing_found}
use Rattle.mp_list.proofs.OneFirst.{first_is_one, first_found}
use Rattle.mp_list.proofs.laws.first_is_one.Goals as goal

pub returns-clause-one : goal.returns-clause-one
returns-clause-one g c before items a b total = first_is_one before total items a b

pub returns-clause-found : goal.returns-clause-found
returns-clause-found g c before items first order = found_first before order items first

pub returns-clause-finds : goal.returns-clause-finds
returns-clause-finds g c before items first order total = first_found before order total items first

pub returns-clause-empty : goal.returns-clause-empty
returns-clause-empty g c before items = nothing_found before items

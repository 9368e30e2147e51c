use Rattle.mp_files.proofs.One.{found_held, held_found, made_found, one_found}
use Rattle.mp_files.proofs.first.one_team.Goals as goal

pub returns-clause-one : goal.returns-clause-one
returns-clause-one c =
    one_found (record { one_tree = c.tree_or_fault.ensures.one_tree; one_fault = c.tree_or_fault.ensures.one_fault; not_both = c.tree_or_fault.ensures.not_both; one_first = c.first_fault_is_one.ensures; one_check = c.first_fault_is_one-2.ensures })

pub returns-clause-held : goal.returns-clause-held
returns-clause-held c = held_found

pub returns-clause-holds : goal.returns-clause-holds
returns-clause-holds c = found_held

pub returns-clause-made : goal.returns-clause-made
returns-clause-made c = made_found

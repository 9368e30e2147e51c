use Rattle.mp_files.proofs.One.{one_first, found_none, one_first_made, made_none}
use Rattle.mp_files.proofs.first.one_first.Goals as goal

pub returns-clause-one : goal.returns-clause-one
returns-clause-one c =
    one_first (record { one_tree = c.tree_or_fault.ensures.one_tree; one_fault = c.tree_or_fault.ensures.one_fault; not_both = c.tree_or_fault.ensures.not_both; one_first = c.first_fault_is_one.ensures; one_check = c.first_fault_is_one-2.ensures })

pub returns-clause-none : goal.returns-clause-none
returns-clause-none c =
    found_none (record { one_tree = c.tree_or_fault.ensures.one_tree; one_fault = c.tree_or_fault.ensures.one_fault; not_both = c.tree_or_fault.ensures.not_both; one_first = c.first_fault_is_one.ensures; one_check = c.first_fault_is_one-2.ensures })

pub returns-clause-one_made : goal.returns-clause-one_made
returns-clause-one_made c =
    one_first_made (record { one_tree = c.tree_or_fault.ensures.one_tree; one_fault = c.tree_or_fault.ensures.one_fault; not_both = c.tree_or_fault.ensures.not_both; one_first = c.first_fault_is_one.ensures; one_check = c.first_fault_is_one-2.ensures })

pub returns-clause-none_made : goal.returns-clause-none_made
returns-clause-none_made c =
    made_none (record { one_tree = c.tree_or_fault.ensures.one_tree; one_fault = c.tree_or_fault.ensures.one_fault; not_both = c.tree_or_fault.ensures.not_both; one_first = c.first_fault_is_one.ensures; one_check = c.first_fault_is_one-2.ensures })

use Rattle.mp_top.proofs.One.{one_first, none_first}
use Rattle.mp_top.proofs.first.one_first.Goals as goal

pub returns-clause-one : goal.returns-clause-one
returns-clause-one c =
    one_first
    (record { one_tree = c.tree_or_fault.ensures.one_tree; one_fault = c.tree_or_fault.ensures.one_fault; not_both = c.tree_or_fault.ensures.not_both; one_first = c.first_fault_is_one.ensures; one_check = c.first_fault_is_one-2.ensures })
    (record { one = c.refused_lines_are_one.ensures.one; none = c.refused_lines_are_one.ensures.none })
    (record { one = c.refused_certificates_have_one_line.ensures.one; none = c.refused_certificates_have_one_line.ensures.none })

pub returns-clause-none : goal.returns-clause-none
returns-clause-none c =
    none_first
    (record { one_tree = c.tree_or_fault.ensures.one_tree; one_fault = c.tree_or_fault.ensures.one_fault; not_both = c.tree_or_fault.ensures.not_both; one_first = c.first_fault_is_one.ensures; one_check = c.first_fault_is_one-2.ensures })
    (record { one = c.refused_lines_are_one.ensures.one; none = c.refused_lines_are_one.ensures.none })
    (record { one = c.refused_certificates_have_one_line.ensures.one; none = c.refused_certificates_have_one_line.ensures.none })

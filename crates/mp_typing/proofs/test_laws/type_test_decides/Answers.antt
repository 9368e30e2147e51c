use Rattle.mp_typing.proofs.Finding.{lies_under_decides}
use Rattle.mp_typing.proofs.Typing.{is_of_type_decides}
use Rattle.mp_typing.proofs.test_laws.type_test_decides.Goals as goal

pub returns-clause-under : goal.returns-clause-under
returns-clause-under c = lies_under_decides

pub returns-clause-object : goal.returns-clause-object
returns-clause-object c = is_of_type_decides

use Rattle.mp_forms.proofs.Basics.{subst, IsProblemOfFile, ProblemFits, ProblemIsNamed}
use Rattle.mp_forms.proofs.TakenFiles.{problem_of_file_fits, problem_of_file_is_named}
use Rattle.mp_forms.proofs.factor.Problem.comes_from_a_file.Goals as goal

pub returns-clause-file : goal.returns-clause-file
returns-clause-file c = subst IsProblemOfFile c.self.view_is c.self.invariant

pub returns-clause-limits : goal.returns-clause-limits
returns-clause-limits c = subst ProblemFits c.self.view_is (problem_of_file_fits _ c.self.invariant)

pub returns-clause-names : goal.returns-clause-names
returns-clause-names c = subst ProblemIsNamed c.self.view_is (problem_of_file_is_named _ c.self.invariant)

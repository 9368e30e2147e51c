use Rattle.mp_forms.proofs.TakenFiles.{domain_is_taken, problem_is_taken}
use Rattle.mp_forms.proofs.laws.values_are_taken_from_the_file.Goals as goal

pub returns-clause-domains : goal.returns-clause-domains
returns-clause-domains c = domain_is_taken

pub returns-clause-problems : goal.returns-clause-problems
returns-clause-problems c = problem_is_taken

use Rattle.mp_forms.proofs.Basics.{subst, IsDomainOfFile, DomainFits, DomainIsNamed}
use Rattle.mp_forms.proofs.TakenFiles.{domain_of_file_fits, domain_of_file_is_named}
use Rattle.mp_forms.proofs.factor.Domain.comes_from_a_file.Goals as goal

pub returns-clause-file : goal.returns-clause-file
returns-clause-file c = subst IsDomainOfFile c.self.view_is c.self.invariant

pub returns-clause-limits : goal.returns-clause-limits
returns-clause-limits c = subst DomainFits c.self.view_is (domain_of_file_fits _ c.self.invariant)

pub returns-clause-names : goal.returns-clause-names
returns-clause-names c = subst DomainIsNamed c.self.view_is (domain_of_file_is_named _ c.self.invariant)

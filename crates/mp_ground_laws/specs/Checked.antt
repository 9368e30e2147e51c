-- What is known of every factor that has passed the checks.
use Rattle.std.specs.Prelude.{◌≡◌, []}
use Rattle.mp_forms.specs.declared.factor.Factor.{Factor}
use Rattle.mp_forms.specs.Limits.{DomainFits, ProblemFits}
use Rattle.mp_forms.specs.Uses.{DomainIsNamed, ProblemIsNamed}
use Rattle.mp_typing.specs.CheckFaults.{check_faults}

-- nothing is wrong with its names, its lists and costs keep the limits, and its names are names
pub record IsChecked (factor : Factor) : Type 0 where
  pub no_fault : check_faults factor.domain factor.problem ≡ []
  pub domain_limits : DomainFits factor.domain
  pub problem_limits : ProblemFits factor.problem
  pub domain_names : DomainIsNamed factor.domain
  pub problem_names : ProblemIsNamed factor.problem

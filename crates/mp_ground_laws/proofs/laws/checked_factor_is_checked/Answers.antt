use Rattle.std.proofs.Common.{subst}
use Rattle.mp_forms.specs.declared.factor.Factor.{Factor}
use Rattle.mp_forms.specs.Limits.{DomainFits, ProblemFits}
use Rattle.mp_forms.specs.Uses.{DomainIsNamed, ProblemIsNamed}
use Rattle.mp_ground_laws.proofs.laws.checked_factor_is_checked.Goals as goal

pub returns : goal.returns
returns c =
    let same = c.factor-whole.ensures.same in
    record {
      no_fault = c.factor-whole.ensures.checked;
      domain_limits = subst (λ (f : Factor). DomainFits f.domain) same c.comes_from_a_file.ensures.limits;
      problem_limits = subst (λ (f : Factor). ProblemFits f.problem) same c.comes_from_a_file-2.ensures.limits;
      domain_names = subst (λ (f : Factor). DomainIsNamed f.domain) same c.comes_from_a_file.ensures.names;
      problem_names = subst (λ (f : Factor). ProblemIsNamed f.problem) same c.comes_from_a_file-2.ensures.names;
    }

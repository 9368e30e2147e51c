-- A domain and a problem are what files say in which nothing is wrong.
use Rattle.std.specs.Prelude.{◌≡◌}
use Rattle.mp_sexp.specs.Node.{Node}
use Rattle.mp_forms.specs.FactorParts.{DomainParts, ProblemParts}
use Rattle.mp_forms.specs.Reading.{Says}
use Rattle.mp_forms.specs.Rules.Files.{domain_rule, problem_rule}

-- some tree says this domain
pub record IsDomainOfFile (domain : DomainParts) : Type 0 where
  pub node : Node
  pub says : domain_rule node ≡ Says domain

-- the same of a problem
pub record IsProblemOfFile (problem : ProblemParts) : Type 0 where
  pub node : Node
  pub says : problem_rule node ≡ Says problem

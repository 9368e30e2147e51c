-- A domain and a problem of the program as contracts see them.
use Rattle.mp_forms.specs.declared.factor.Domain.TheInside as domains
use Rattle.mp_forms.specs.declared.factor.Problem.TheInside as problems
use Rattle.mp_forms.specs.FactorParts.{DomainParts, ProblemParts}

abbrev pub domain_fields : domains.Inside → DomainParts
domain_fields d =
    record { word = d.word; types = d.types; constants = d.constants; predicates = d.predicates; functions = d.functions; schemas = d.schemas }

abbrev pub problem_fields : problems.Inside → ProblemParts
problem_fields p =
    record { word = p.word; domain = p.domain; objects = p.objects; init = p.init; values = p.values; goals = p.goals; metric = p.metric }

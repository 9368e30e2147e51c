use Rattle.std.proofs.Common.{◌≡◌, ◌||◌, [], drop}
use Rattle.mp_joint.specs.declared.fact.NamedFact.{NamedFact}
use Rattle.mp_joint.specs.Fact.{is_among}
use Rattle.mp_joint.specs.FactorContribution.{facts_of}
use Rattle.mp_checker.specs.AgentView.{names_of, agent_of, factor_of}
use Rattle.mp_checker.specs.At.{is_true, numbers_of}
use Rattle.mp_checker.specs.Marked.{true_facts}
use Rattle.mp_checker.specs.Team.{starts}
use Rattle.mp_checker.proofs.start.add_start.Given as goal

abbrev pub invariant-loop-atom : goal.invariant-loop-atom
invariant-loop-atom l = (f : NamedFact)
    → (is_among f (facts_of (agent_of l.factor) (factor_of l.factor) [] [] (drop l.atom-index (factor_of l.factor).problem.init))
    || is_true (true_facts l.facts) (numbers_of (names_of l.factor) f))
    ≡ (starts l.factor f || is_true (true_facts l.fn.facts) (numbers_of (names_of l.factor) f))

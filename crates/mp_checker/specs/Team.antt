-- What a team's files say, agent by agent, and what is found of a step of one of its agents.
use Rattle.std.specs.Prelude.{◌≡◌, Bool, List, [], MatchOption}
use Rattle.mp_joint.specs.declared.fact.NamedFact.{NamedFact}
use Rattle.mp_joint.specs.declared.fact.SignedFact.{SignedFact}
use Rattle.mp_joint.specs.declared.plan.PlanStep.{PlanStep}
use Rattle.mp_joint.specs.Fact.{is_among}
use Rattle.mp_joint.specs.FactorContribution.{facts_of}
use Rattle.mp_plan_verdict.specs.Written.{signed_facts}
use Rattle.mp_checker.specs.declared.fact.FactNumbers.{FactNumbers}
use Rattle.mp_checker.specs.declared.taken.Taken.{Taken}
use Rattle.mp_checker.specs.declared.taken.Taken.TheVariants.{NoAction}
use Rattle.mp_checker.specs.AgentView.{AgentView, names_of, agent_of, factor_of, at_agent}
use Rattle.mp_checker.specs.At.{named_state}
use Rattle.mp_checker.specs.Taken.{IsTaken}

-- a fact is true at the start
abbrev pub starts : AgentView → NamedFact → Bool
starts view f = is_among f (facts_of (agent_of view) (factor_of view) [] [] (factor_of view).problem.init)

-- the goals of an agent
abbrev pub goals_of : AgentView → List SignedFact
goals_of view = signed_facts (agent_of view) (factor_of view) [] [] (factor_of view).problem.goals

-- a step of an agent of the team, and one of an agent that has no factor
abbrev pub IsStep : List AgentView → List FactNumbers → List FactNumbers → PlanStep → Taken → Type 0
IsStep team old new step taken =
    MatchOption (at_agent team step.agent) (taken ≡ NoAction)
    (λ view. IsTaken (agent_of view) (factor_of view) (named_state (names_of view) old) (named_state (names_of view) new) step taken)

-- What is found of a plan of the united problem: the first thing that is wrong with it, or its cost (MA-STRIPS).
use Rattle.std.specs.Prelude.{ℕ, ◌+◌, List, [], ◌∷◌, find, not, if◌then◌else◌}
use Rattle.std.specs.Option.{option_map_or}
use Rattle.mp_forms.specs.declared.factor.Factor.{Factor}
use Rattle.mp_joint.specs.declared.fact.SignedFact.{SignedFact}
use Rattle.mp_joint.specs.declared.plan.PlanStep.{PlanStep}
use Rattle.mp_joint.specs.Instance.{State, holds, after}
use Rattle.mp_joint.specs.Plan.{instance_of, joint_start}
use Rattle.mp_joint.specs.FactorContribution.{team_of}
use Rattle.mp_plan_verdict.specs.declared.verdict.CheckVerdict.{CheckVerdict}
use Rattle.mp_plan_verdict.specs.declared.verdict.CheckVerdict.TheVariants.{Valid, NoAction, Missing, Forbidden, GoalMissing, GoalForbidden}
use Rattle.mp_plan_verdict.specs.Written.{written, written_goals}

-- where one of these does not hold, what follows from the first such; else the other verdict
abbrev pub first_failing : State → List SignedFact → (SignedFact → CheckVerdict) → CheckVerdict → CheckVerdict
first_failing s asked failing otherwise = option_map_or failing (find (λ x. not (holds s x)) asked) otherwise

-- a step of this time asks for what does not hold: a fact that is false, or the negation of one that is true
abbrev pub failing_step : ℕ → SignedFact → CheckVerdict
failing_step time x = if x.positive then Missing time x.fact else Forbidden time x.fact

abbrev pub failing_goal : SignedFact → CheckVerdict
failing_goal x = if x.positive then GoalMissing x.fact else GoalForbidden x.fact

-- the verdict on the rest of a plan, from a state on, where its first step has this time and the steps before it cost
-- this much
abbrev pub verdict_from : List Factor → State → ℕ → ℕ → List PlanStep → CheckVerdict
verdict_from factors s time paid [] = first_failing s (written_goals factors) failing_goal (Valid paid)
verdict_from factors s time paid (step ∷ steps) =
    option_map_or (λ i. first_failing s (written factors step) (failing_step time) (verdict_from factors (after i s) (time + 1) (paid + i.cost) steps)) (instance_of (team_of factors) step) (NoAction time)

-- the verdict on a plan
abbrev pub verdict : List Factor → List PlanStep → CheckVerdict
verdict factors plan = verdict_from factors (joint_start (team_of factors)) 1 0 plan

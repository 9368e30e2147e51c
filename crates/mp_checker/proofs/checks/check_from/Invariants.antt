use Rattle.std.proofs.Common.{◌≡◌, ◌≤◌, ◌+◌, ◌*◌, List, drop, take}
use Rattle.mp_forms.specs.declared.factor.Factor.{Factor}
use Rattle.mp_joint.specs.Fact.{Text}
use Rattle.mp_joint.specs.FactorContribution.{team_of}
use Rattle.mp_plan_verdict.specs.Verdict.{verdict_from}
use Rattle.mp_checker.specs.AgentView.{views_from}
use Rattle.mp_checker.specs.At.{named_state}
use Rattle.mp_checker.specs.Marked.{true_facts}
use Rattle.mp_checker.specs.Sink.{HasCome}
use Rattle.mp_checker.specs.Steps.{NumberedStep}
use Rattle.mp_checker.proofs.StepLemmas.{AreStepped}
use Rattle.mp_checker.proofs.checks.check_from.Given as goal

abbrev pub invariant-loop-place : goal.invariant-loop-place
invariant-loop-place g l =
    (l.paid ≤ l.place * 16000000)
    × ((names : List Text) (factors : List Factor) → l.team ≡ views_from names 1 factors
    → verdict_from factors (named_state names (true_facts l.facts)) (l.place + 1) l.paid (drop l.place l.plan)
    ≡ verdict_from factors (named_state names (true_facts l.fn.facts)) 1 0 l.plan)
    × HasCome (g.K.StepSink.have_come l.sink)
    × ((names : List Text) (factors : List Factor) → l.team ≡ views_from names 1 factors
    → (steps : List NumberedStep) × g.K.StepSink.have_come l.sink steps
    × AreStepped names l.facts.known.keys (team_of factors) (take l.place l.plan) steps)

use Rattle.std.proofs.Common.{◌≡◌, List, sym, ap, ◌∙◌}
use Rattle.std.specs.Option.{option_copied}
use Rattle.mp_forms.specs.declared.factor.Factor.{Factor}
use Rattle.mp_joint.specs.Fact.{Text}
use Rattle.mp_joint.specs.FactorContribution.{instance_at, team_of}
use Rattle.mp_joint.specs.Plan.{instance_of}
use Rattle.mp_checker.specs.declared.taken.Taken.{Taken}
use Rattle.mp_checker.specs.AgentView.{names_of, agent_of, factor_of, views_from}
use Rattle.mp_checker.specs.Stepped.{IsStepped, step_in}
use Rattle.mp_checker.specs.Taken.{IfDone}
use Rattle.mp_checker.proofs.StepLemmas.{an_agent, if_done, of_agent}
use Rattle.mp_checker.proofs.TakenLemmas.{if_ok}
use Rattle.mp_checker.proofs.checks.take_step.Goals as goal

pub returns-in-Some-clause-step : goal.returns-in-Some-clause-step
returns-in-Some-clause-step c =
    let v = c.in-Some.factor.now in
    let team = c.args.team.now in
    let step = c.args.step.now in
    let keys = c.take.new.facts.known.keys in
    let places = c.take.new.room.places in
    let own = IsStepped (names_of v) keys (agent_of v) (instance_at (agent_of v) (factor_of v) step.action step.args) (step_in (agent_of v) places) in
    let whole = (names : List Text) (factors : List Factor) → team ≡ views_from names 1 factors
    → IsStepped names keys step.agent (instance_of (team_of factors) step) (step_in step.agent places) in
    if_ok (λ (t : Taken). IfDone t own) (λ (t : Taken). IfDone t whole) c.take.result
    (λ t h. if_done own whole t
    (λ s names factors is.
    of_agent names keys step.agent (agent_of v) (instance_of (team_of factors) step) places
    (an_agent names factors team step v keys (step_in (agent_of v) places) is (sym c.factor_of.ensures ∙ ap option_copied c.in-Some.is) s)) h)
    c.take.ensures.step

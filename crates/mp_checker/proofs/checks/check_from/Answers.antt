use Rattle.std.proofs.Common.{◌≡◌, ◌<◌, ◌≤◌, ◌+◌, List, [], ◌∷◌, ◌++◌, Option, length, get_or, refl, sym, ap, subst, ◌∙◌, arith}
use Rattle.std.specs.Option.{option_map_or}
use Rattle.mp_forms.specs.declared.factor.Factor.{Factor}
use Rattle.mp_joint.specs.Fact.{Text}
use Rattle.mp_joint.specs.FactorContribution.{team_of}
use Rattle.mp_joint.specs.Plan.{instance_of}
use Rattle.mp_joint.specs.declared.fact.SignedFact.{SignedFact}
use Rattle.mp_joint.specs.declared.plan.PlanStep.{PlanStep}
use Rattle.mp_plan_verdict.specs.declared.verdict.CheckVerdict.TheVariants as verdicts
use Rattle.mp_plan_verdict.specs.Verdict.{failing_goal}
use Rattle.mp_plan_verdict.specs.declared.verdict.CheckVerdict.{CheckVerdict}
use Rattle.mp_checker.specs.declared.taken.Taken.{Taken}
use Rattle.mp_checker.specs.AgentView.{AreOf, views_from}
use Rattle.mp_checker.specs.Checked.{IfValid}
use Rattle.mp_checker.specs.Marked.{true_facts}
use Rattle.mp_checker.specs.Stepped.{IsStepped, step_in}
use Rattle.mp_checker.specs.Sink.{HasPlanCome}
use Rattle.mp_checker.specs.Taken.{IfDone}
use Rattle.mp_checker.specs.Team.{IsStep}
use Rattle.mp_checker.proofs.StepLemmas.{step_more, steps_numbered}
use Rattle.mp_checker.proofs.TeamLemmas.{same_names}
use Rattle.mp_checker.proofs.VerdictLemmas.{stopped_no_action, stopped_failing, goes_on, step_small, end_is, unless_step, unless_goal}
use Rattle.mp_checker.proofs.checks.check_from.Goals as goal

pub loop-place-init : goal.loop-place-init
loop-place-init g c = (
  omega arith,
  λ names factors is. refl,
  ([], c.requires.none_yet),
  λ names factors is. ([], c.requires.none_yet, tt),
)

pub returns-in-NoAction-clause-verdict : goal.returns-in-NoAction-clause-verdict
returns-in-NoAction-clause-verdict g c = λ names factors is.
    let l = c.loop-place in
    let x = c.step-item.result in
    let lt = subst (λ (xs : List PlanStep). l.place < length xs) c.as_slice-step-items.ensures c.loop-place-test.true in
    let at = subst (λ (xs : List PlanStep). x ≡ get_or xs l.place x) c.as_slice-step-items.ensures c.step-item.is in
    sym (stopped_no_action names factors c.args.team.now (true_facts l.facts) (true_facts c.take_step.new.facts) c.args.plan.now l.place l.paid x is lt at
    (subst (IsStep c.args.team.now (true_facts l.facts) (true_facts c.take_step.new.facts) x) c.in-NoAction.is c.in_ok-take_step.ensures.taken))
    ∙ l.invariant.1 names factors is

pub returns-in-Fails-clause-verdict : goal.returns-in-Fails-clause-verdict
returns-in-Fails-clause-verdict g c = λ names factors is.
    let l = c.loop-place in
    let x = c.step-item.result in
    let lt = subst (λ (xs : List PlanStep). l.place < length xs) c.as_slice-step-items.ensures c.loop-place-test.true in
    let at = subst (λ (xs : List PlanStep). x ≡ get_or xs l.place x) c.as_slice-step-items.ensures c.step-item.is in
    c.failing_step.ensures
    ∙ sym (stopped_failing names factors c.args.team.now (true_facts l.facts) (true_facts c.take_step.new.facts) c.args.plan.now l.place l.paid x c.in-Fails.first is lt at
    (subst (IsStep c.args.team.now (true_facts l.facts) (true_facts c.take_step.new.facts) x) c.in-Fails.is c.in_ok-take_step.ensures.taken))
    ∙ l.invariant.1 names factors is

pub loop-place-preserved : goal.loop-place-preserved
loop-place-preserved g c =
    let l = c.loop-place in
    let x = c.step-item.result in
    let lt = subst (λ (xs : List PlanStep). l.place < length xs) c.as_slice-step-items.ensures c.loop-place-test.true in
    let at = subst (λ (xs : List PlanStep). x ≡ get_or xs l.place x) c.as_slice-step-items.ensures c.step-item.is in
    let step = subst (IsStep c.args.team.now (true_facts l.facts) (true_facts c.take_step.new.facts) x) c.in-Done.is c.in_ok-take_step.ensures.taken in
    let small = step_small c.args.team.now (true_facts l.facts) (true_facts c.take_step.new.facts) x c.in-Done.cost step in
    let paid = l.invariant.0 in (
      omega (arith, small, paid),
      λ names factors is.
          sym (goes_on names factors c.args.team.now (true_facts l.facts) (true_facts c.take_step.new.facts) c.args.plan.now l.place l.paid c.in-Done.cost x is lt at step)
          ∙ l.invariant.1 names factors is,
      (l.invariant.2.0 ++ step_in x.agent c.take_step.new.room.places ∷ [], c.in_ok-hand_over-in-Done.ensures l.invariant.2.0 l.invariant.2.1),
      λ names factors is.
          let new = c.take_step.new.facts.known.keys in
          let places = c.take_step.new.room.places in
          let whole = (ns : List Text) (fs : List Factor) → c.args.team.now ≡ views_from ns 1 fs
          → IsStepped ns new x.agent (instance_of (team_of fs) x) (step_in x.agent places) in
          let numbered : whole = subst (λ (t : Taken). IfDone t whole) c.in-Done.is c.in_ok-take_step.ensures.step in
          let before = l.invariant.3 names factors is in (
            before.0 ++ step_in x.agent places ∷ [],
            c.in_ok-hand_over-in-Done.ensures before.0 before.1,
            step_more names l.facts.known.keys new (team_of factors) c.args.plan.now l.place x before.0 (step_in x.agent places) lt at
                c.in_ok-take_step.ensures.grows before.2 (numbered names factors is),
          ),
    )

pub returns-in-Some-clause-verdict : goal.returns-in-Some-clause-verdict
returns-in-Some-clause-verdict g c = λ names factors is.
    let l = c.loop-place in
    let past = subst (λ (xs : List PlanStep). length xs ≤ l.place) c.as_slice-step-items.ensures c.loop-place-test.false in
    let of = subst (AreOf names) (sym is) (same_names names 1 factors) in
    c.failing_end.ensures
    ∙ sym (end_is names factors c.args.team.now (true_facts l.facts) c.args.plan.now l.place (l.place + 1) l.paid c.in_ok-first.field-0 is past (c.in_ok-first.ensures names of)
    ∙ ap (λ (o : Option SignedFact). option_map_or failing_goal o (verdicts.Valid l.paid)) c.in-Some.is)
    ∙ l.invariant.1 names factors is

pub returns-in-None-clause-verdict : goal.returns-in-None-clause-verdict
returns-in-None-clause-verdict g c = λ names factors is.
    let l = c.loop-place in
    let past = subst (λ (xs : List PlanStep). length xs ≤ l.place) c.as_slice-step-items.ensures c.loop-place-test.false in
    let of = subst (AreOf names) (sym is) (same_names names 1 factors) in
    sym (end_is names factors c.args.team.now (true_facts l.facts) c.args.plan.now l.place (l.place + 1) l.paid c.in_ok-first.field-0 is past (c.in_ok-first.ensures names of)
    ∙ ap (λ (o : Option SignedFact). option_map_or failing_goal o (verdicts.Valid l.paid)) c.in-None.is)
    ∙ l.invariant.1 names factors is

pub returns-in-Fails-clause-steps : goal.returns-in-Fails-clause-steps
returns-in-Fails-clause-steps g c =
    let l = c.loop-place in
    let whole = (names : List Text) (factors : List Factor) → c.args.team.now ≡ views_from names 1 factors
    → HasPlanCome (g.K.StepSink.have_come l.sink) (team_of factors) c.args.plan.now in
    subst (λ (v : CheckVerdict). IfValid v whole) (sym c.failing_step.ensures) (unless_step (l.place + 1) c.in-Fails.first whole)

pub returns-in-Some-clause-steps : goal.returns-in-Some-clause-steps
returns-in-Some-clause-steps g c =
    let l = c.loop-place in
    let whole = (names : List Text) (factors : List Factor) → c.args.team.now ≡ views_from names 1 factors
    → HasPlanCome (g.K.StepSink.have_come l.sink) (team_of factors) c.args.plan.now in
    subst (λ (v : CheckVerdict). IfValid v whole) (sym c.failing_end.ensures) (unless_goal c.in-Some.first whole)

pub returns-in-None-clause-steps : goal.returns-in-None-clause-steps
returns-in-None-clause-steps g c = λ names factors is.
    let l = c.loop-place in
    let past = subst (λ (xs : List PlanStep). length xs ≤ l.place) c.as_slice-step-items.ensures c.loop-place-test.false in
    let so_far = l.invariant.3 names factors is in
    record {
      steps = so_far.0;
      came = so_far.1;
      numbered = steps_numbered names l.facts.known.keys (team_of factors) c.args.plan.now so_far.0 l.place past so_far.2;
    }

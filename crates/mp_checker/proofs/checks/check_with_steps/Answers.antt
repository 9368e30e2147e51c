use Rattle.std.proofs.Common.{◌≡◌, List, sym, ap, subst, ◌∙◌}
use Rattle.mp_forms.specs.declared.factor.Factor.{Factor}
use Rattle.mp_joint.specs.Fact.{Text}
use Rattle.mp_joint.specs.FactorContribution.{team_of}
use Rattle.mp_joint.specs.Instance.{State}
use Rattle.mp_plan_verdict.specs.declared.verdict.CheckVerdict.{CheckVerdict}
use Rattle.mp_plan_verdict.specs.Verdict.{verdict, verdict_from}
use Rattle.mp_checker.specs.AgentView.{AreOf, views_from}
use Rattle.mp_checker.specs.At.{named_state}
use Rattle.mp_checker.specs.Checked.{IfValid}
use Rattle.mp_checker.specs.Marked.{true_facts}
use Rattle.mp_checker.specs.Sink.{HasPlanCome}
use Rattle.mp_checker.proofs.TakenLemmas.{if_ok}
use Rattle.mp_checker.proofs.TeamLemmas.{same_names}
use Rattle.mp_checker.proofs.VerdictLemmas.{if_valid, start_is}
use Rattle.mp_checker.proofs.checks.check_with_steps.Goals as goal

pub returns-clause-verdict : goal.returns-clause-verdict
returns-clause-verdict g c =
    let names = c.in_ok-names.names in
    let factors = c.args.factors.now in
    let plan = c.args.plan.now in
    let facts = true_facts c.in_ok-facts.facts in
    let team : c.as_slice.result.now ≡ views_from names 1 factors = c.as_slice.ensures.value ∙ c.in_ok-team.ensures in
    let again : c.as_slice-2.result.now ≡ views_from names 1 factors = c.as_slice-2.ensures.value ∙ c.in_ok-team.ensures in
    let of = subst (AreOf names) (sym team) (same_names names 1 factors) in
    let start = start_is names factors c.as_slice.result.now facts team (c.in_ok-facts.ensures names of) in
    if_ok (λ (v : CheckVerdict). (ns : List Text) (fs : List Factor) → c.as_slice-2.result.now ≡ views_from ns 1 fs
    → v ≡ verdict_from fs (named_state ns facts) 1 0 plan)
    (λ (v : CheckVerdict). v ≡ verdict factors plan) c.check_from.result
    (λ v h. h names factors again ∙ ap (λ (s : State). verdict_from factors s 1 0 plan) start)
    c.check_from.ensures.verdict

pub returns-clause-steps : goal.returns-clause-steps
returns-clause-steps g c =
    let names = c.in_ok-names.names in
    let factors = c.args.factors.now in
    let plan = c.args.plan.now in
    let come = g.K.StepSink.have_come c.check_from.new.sink in
    let again : c.as_slice-2.result.now ≡ views_from names 1 factors = c.as_slice-2.ensures.value ∙ c.in_ok-team.ensures in
    let each = (ns : List Text) (fs : List Factor) → c.as_slice-2.result.now ≡ views_from ns 1 fs → HasPlanCome come (team_of fs) plan in
    let own = HasPlanCome come (team_of factors) plan in
    if_ok (λ (v : CheckVerdict). IfValid v each) (λ (v : CheckVerdict). IfValid v own) c.check_from.result
    (λ v h. if_valid each own v (λ k. k names factors again) h)
    c.check_from.ensures.steps

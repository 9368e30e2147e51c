-- A plan that is valid, for which an audit shows that no plan is cheaper, is a cheapest one.
use Rattle.std.proofs.Common.{◌≡◌, ◌↔◌, ◌≤◌, ℕ, true, List, [], ◌∷◌, length, All, refl, ap, subst, arith}
use Rattle.std.proofs.lemmas.Bool.{and_parts, eqb-true}
use Rattle.std.specs.Prelude.{Contains}
use Rattle.mp_audit.specs.Audited.{Audited}
use Rattle.mp_audit.specs.Failures.{verdict_on}
use Rattle.mp_audit.specs.declared.certificate.Certificate.{Certificate}
use Rattle.mp_audit.specs.declared.verdict.AuditVerdict.{AuditVerdict}
use Rattle.mp_audit.specs.declared.verdict.AuditVerdict.TheVariants.{Holds, Double, Start, Goal, Step}
use Rattle.mp_forms.specs.declared.factor.Factor.{Factor}
use Rattle.mp_ground_laws.specs.Checked.{IsChecked}
use Rattle.mp_joint.specs.FactorContribution.{team_of}
use Rattle.mp_joint.specs.Plan.{Solves, cost as cost_of}
use Rattle.mp_joint.specs.declared.plan.PlanStep.{PlanStep}
use Rattle.mp_list.proofs.Members.{contains_head}
use Rattle.mp_plan_verdict.specs.Verdict.{verdict}
use Rattle.mp_plan_verdict.specs.declared.verdict.CheckVerdict.{CheckVerdict}
use Rattle.mp_plan_verdict.specs.declared.verdict.CheckVerdict.TheVariants.{Valid, NoAction, Missing, Forbidden, GoalMissing, GoalForbidden}
use Rattle.mp_plans.specs.declared.plan.PlanText.{PlanText}
use Rattle.mp_solutions.specs.Right.{CostsAtLeast, IsCheapest}
use Rattle.mp_solutions.proofs.Plans.{least_for_files}
use Rattle.mp_split.specs.Team.{AreTasksOf}
use Rattle.mp_split.specs.declared.team.Tasks.{Tasks}
use Rattle.mp_stands.proofs.Files.{files_stand}
use Rattle.mp_task.specs.Agreement.{AreNumbered, IsTeamMember}
use Rattle.mp_task.specs.AgentTask.{AgentTask}
use Rattle.mp_task.specs.Plan.{TaskSolves, TaskStep, task_cost}
use Rattle.mp_task.proofs.Agreeing.{agree_numbered}
use Rattle.mp_optimality.specs.Told.{is_optimal, is_shown, is_valid}

-- the laws of verdicts and of audits
pub record Laws : Type 0 where
  pub valid :
      (team : List Factor) (plan : List PlanStep) (cost : ℕ)
      → (verdict team plan ≡ Valid cost) ↔ (Solves (team_of team) plan × (cost_of (team_of team) plan ≡ cost))
  pub wrong :
      (tasks : List AgentTask) (certificate : Certificate) → AreNumbered tasks
      → (verdict_on tasks certificate ≡ Holds) ↔ Audited tasks certificate
  pub least :
      (tasks : List AgentTask) (certificate : Certificate) (t : AgentTask) (plan : List TaskStep)
      → IsTeamMember tasks t → Audited tasks certificate → TaskSolves tasks plan
      → certificate.cost ≤ task_cost tasks plan

valid_at : (found : CheckVerdict) (stated : ℕ) → is_valid found stated ≡ true → found ≡ Valid stated
valid_at (Valid cost) stated h = ap Valid (eqb-true cost stated h)
valid_at (NoAction time) stated h = absurd (cc)
valid_at (Missing time fact) stated h = absurd (cc)
valid_at (Forbidden time fact) stated h = absurd (cc)
valid_at (GoalMissing fact) stated h = absurd (cc)
valid_at (GoalForbidden fact) stated h = absurd (cc)

shown_by : (audit : AuditVerdict) (bound cost : ℕ) → is_shown audit bound cost ≡ true → (audit ≡ Holds) × (bound ≡ cost)
shown_by Holds bound cost h = (refl, eqb-true bound cost h)
shown_by (Double entry) bound cost h = absurd (cc)
shown_by (Start agent) bound cost h = absurd (cc)
shown_by (Goal entry) bound cost h = absurd (cc)
shown_by (Step entry action agent) bound cost h = absurd (cc)

-- a list with an item has a first one
some_task : (tasks : List AgentTask) → 1 ≤ length tasks → (t : AgentTask) × Contains tasks t
some_task [] some = absurd (omega (arith, some))
some_task (t ∷ ts) some = (t, contains_head t ts)

module _ (laws : Laws) (team : List Factor) (t : Tasks) (checked : All IsChecked team) (some : 1 ≤ length team) (are : AreTasksOf team t)
    (certificate : Certificate) where
  -- where an audit of a certificate holds
  pub no_cheaper : verdict_on t.tasks certificate ≡ Holds → CostsAtLeast team certificate.cost
  no_cheaper holds =
      let found = files_stand team t checked are in
      let stands = found.2 in
      let one_each = stands.one_each in
      let member = some_task t.tasks (omega (arith, one_each, some)) in
      let audited = (laws.wrong t.tasks certificate (agree_numbered t.tasks stands.agree)).0 holds in
      least_for_files team found.0 t.tasks stands certificate.cost
      (λ steps solves. laws.least t.tasks certificate member.0 steps (record { agree = stands.agree; in_team = member.1 }) audited solves)

  pub cheapest : (plan : PlanText) → is_optimal (verdict team plan.plan) (verdict_on t.tasks certificate) certificate.cost plan.cost ≡ true
      → IsCheapest team plan.cost (length plan.plan) plan.plan
  cheapest plan optimal =
      let both = and_parts (is_valid (verdict team plan.plan) plan.cost) _ optimal in
      let solved = (laws.valid team plan.plan plan.cost).0 (valid_at (verdict team plan.plan) plan.cost both.0) in
      let shown = shown_by (verdict_on t.tasks certificate) certificate.cost plan.cost both.1 in
      record {
        solves = solved.0;
        cost_is = solved.1;
        steps_are = refl;
        least = subst (CostsAtLeast team) shown.1 (no_cheaper shown.0);
      }

-- A certificate that shows that no plan is cheaper is right: each plan in order is a way through the searches of the agents, and
-- along it the bounds fall by no more than is paid.
use Rattle.std.proofs.Common.{◌≡◌, ℕ, ◌+◌, ◌≤◌, List, length, refl, sym, subst, arith, inl, inr}
use Rattle.mp_task.specs.AgentTask.{AgentTask}
use Rattle.mp_task.specs.Agreement.{IsTeamMember}
use Rattle.mp_task.specs.Plan.{TaskStep, TaskSolves, joint_start, task_cost}
use Rattle.mp_task.proofs.Agreeing.{agree_numbered}
use Rattle.mp_order.proofs.InOrder.{in_order}
use Rattle.mp_reach.specs.LeadsOn.{Known, LeadsOn, IsGoal}
use Rattle.mp_reach.proofs.TeamWays.{ordered_way}
use Rattle.mp_audit.specs.declared.certificate.Certificate.{Certificate}
use Rattle.mp_audit.specs.Audited.{Audited, bound_of}
use Rattle.mp_audit.proofs.BoundLemmas.{entry_or_none}
use Rattle.mp_audit.proofs.PotentialLemmas.{is_bound}

module _ (tasks : List AgentTask) (certificate : Certificate) (audited : Audited tasks certificate) where
  abbrev left : Known → ℕ
  left = bound_of certificate.bounds

  falls : (k : Known) (cost : ℕ) (l : Known) → LeadsOn tasks k cost l → left k ≤ left l + cost
  falls k cost l leads =
      elim (entry_or_none certificate.bounds k) [
        | inl has ↦
            let step : has.entry.bound ≤ left l + cost =
            audited.steps has.entry cost l has.there (subst (λ (m : Known). LeadsOn tasks m cost l) (sym has.of) leads) in
            let bound = has.bound in
            omega arith
        | inr none ↦ omega arith
      ]

  ends : (k : Known) → IsGoal tasks k → left k ≡ 0
  ends k goal =
      elim (entry_or_none certificate.bounds k) [
        | inl has ↦ absurd (audited.goals has.entry has.there (subst (IsGoal tasks) (sym has.of) goal))
        | inr none ↦ none
      ]

  pub none_is_cheaper : (t : AgentTask) (plan : List TaskStep) → IsTeamMember tasks t → TaskSolves tasks plan → certificate.cost ≤ task_cost tasks plan
  none_is_cheaper t plan member solves =
      let it = in_order tasks (agree_numbered tasks member.agree) (length plan) (joint_start tasks) plan (omega arith) solves in
      let start = ordered_way tasks t member (joint_start tasks) it.steps it.ordered in
      let first : Known = record { agent = start.task.me; state = joint_start tasks } in
      let at_start = audited.starts first (record { task = start.task; in_team = start.in_team; agent = refl; state = refl }) in
      let along = is_bound (LeadsOn tasks) (IsGoal tasks) left falls ends first (task_cost tasks it.steps) start.goes_on.end start.goes_on.way start.goes_on.goal in
      let cheaper = it.cheaper in
      omega arith

-- An ordered plan is a plan: each of its parts leads to the state that is said.
use Rattle.std.proofs.Common.{◌≡◌, ℕ, Bool, List, [], ◌++◌, cond, Some, None, sym, ap, ◌∙◌}
use Rattle.std.specs.Option.{option_and_then}
use Rattle.mp_runs.specs.Run.{run}
use Rattle.mp_runs.proofs.Runs.{run-after, run-first, run-none}
use Rattle.mp_task.specs.declared.act.Act.{Act}
use Rattle.mp_task.specs.AgentTask.{AgentTask}
use Rattle.mp_task.specs.Plan.{JointState, TaskStep, SolvesFrom, after_act, after_if_applies, after_step}
use Rattle.mp_order.specs.Ordered.{TakesStep, IsBlock, IsClosingGroup, AreClosingGroups, IsOrdered}
use Rattle.mp_order.specs.Ordered.IsBlock.{by_public, by_private}
use Rattle.mp_order.specs.Ordered.IsClosingGroup.{met, unmet}
use Rattle.mp_order.specs.Ordered.AreClosingGroups.{no_agent, first_agent}
use Rattle.mp_order.specs.Ordered.IsOrdered.{closing, block}
use Rattle.mp_order.proofs.InOrder.{solved, solves}

pub step_leads : (tasks : List AgentTask) (agent : ℕ) (passes : Act → Bool) (s reached : JointState) (step : TaskStep) → TakesStep tasks agent passes s step reached → after_step tasks s step ≡ Some reached
step_leads tasks agent passes s reached step takes =
    (λ i. option_and_then (after_if_applies s (takes.by i)) (takes.is i))
    ∙ ap (λ b. cond b (Some (after_act s agent takes.act)) None) takes.may
    ∙ ap Some (sym takes.leads)

module _ (tasks : List AgentTask) where
  pub block_leads : (agent : ℕ) (s reached : JointState) (steps : List TaskStep) → IsBlock tasks agent s steps reached → run (after_step tasks) s steps ≡ Some reached
  block_leads agent s reached steps (by_public _ _ step takes) =
      run-first (after_step tasks) s reached step [] (step_leads tasks agent _ s reached step takes) ∙ run-none (after_step tasks) reached
  block_leads agent s reached steps (by_private _ next _ step others takes later) =
      run-first (after_step tasks) s next step others (step_leads tasks agent _ s next step takes) ∙ block_leads agent next reached others later

  pub group_leads : (t : AgentTask) (s reached : JointState) (steps : List TaskStep) → IsClosingGroup tasks t s steps reached → run (after_step tasks) s steps ≡ Some reached
  group_leads t s reached steps (met _ goals) = run-none (after_step tasks) s
  group_leads t s reached steps (unmet _ next _ step others goals takes later) =
      run-first (after_step tasks) s next step others (step_leads tasks t.me _ s next step takes) ∙ group_leads t next reached others later

  pub groups_lead : (ts : List AgentTask) (s reached : JointState) (steps : List TaskStep) → AreClosingGroups tasks ts s steps reached → run (after_step tasks) s steps ≡ Some reached
  groups_lead ts s reached steps (no_agent _) = run-none (after_step tasks) s
  groups_lead ts s reached steps (first_agent t others _ next _ group groups now later) =
      run-after (after_step tasks) s next group groups (group_leads t s next group now) ∙ groups_lead others next reached groups later

  pub ordered_solves : (s : JointState) (plan : List TaskStep) → IsOrdered tasks s plan → SolvesFrom tasks s plan
  ordered_solves s plan (closing _ reached _ groups goals) = solves tasks s reached plan (groups_lead tasks s reached plan groups) goals
  ordered_solves s plan (block agent _ next steps later now rest) =
      let it = solved tasks next later (ordered_solves next later rest) in
      solves tasks s it.last (steps ++ later) (run-after (after_step tasks) s next steps later (block_leads agent s next steps now) ∙ it.ran) it.goals

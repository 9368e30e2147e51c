-- The answer of a team is right for its files.
use Rattle.std.proofs.Common.{arith, ◌≡◌, ◌≤◌, ℕ, ◌∷◌, List, [], length, All, Some, true, ap, subst, ◌∙◌}
use Rattle.std.specs.Prelude.{Contains}
use Rattle.mp_forms.specs.declared.factor.Factor.{Factor}
use Rattle.mp_joint.specs.declared.plan.PlanStep.{PlanStep}
use Rattle.mp_list.proofs.Members.{contains_head}
use Rattle.mp_task.specs.AgentTask.{AgentTask}
use Rattle.mp_task.specs.Limits.{IsWithinLimits}
use Rattle.mp_messages.specs.declared.history.Entry.{Entry}
use Rattle.mp_messages.specs.declared.history.Event.{Event}
use Rattle.mp_world.specs.Answers.{answer_of, outcome_of}
use Rattle.mp_world.specs.Events.{run}
use Rattle.mp_world.specs.RoundRobin.{is_over}
use Rattle.mp_world.specs.Team.{AreTeamTasks, most_expansions, team_with}
use Rattle.mp_world.specs.Values.{Values}
use Rattle.mp_world.specs.World.{World}
use Rattle.mp_world.specs.declared.answer.Answer.TheVariants.{Undecided}
use Rattle.mp_world.proofs.Runs.{run_of_team}
use Rattle.mp_world.proofs.Stepping.{team_size}
use Rattle.mp_ground_laws.specs.Checked.{IsChecked}
use Rattle.mp_split.specs.Team.{AreTasksOf}
use Rattle.mp_split.specs.declared.team.Tasks.{Tasks}
use Rattle.mp_stands.proofs.Files.{files_stand}
use Rattle.mp_team_states.proofs.SoundWorlds.{IsHeuristic}
use Rattle.mp_team_verdicts.proofs.Answers.{answer_right}
use Rattle.mp_team_verdicts.specs.Right.{IsRightAnswer}
use Rattle.mp_text.specs.Outcome.{outcome_text}
use Rattle.mp_outcome.specs.Names.{names_of}
use Rattle.mp_solutions.specs.PlanText.{answer_text, plan_lines}
use Rattle.mp_solutions.specs.Right.{IsLeftUndecided, IsRight}
use Rattle.mp_solutions.proofs.Answers.{left_for_files, right_for_files}
use Rattle.mp_solutions.proofs.Names.{names_are, steps_are_own}
use Rattle.mp_solutions.proofs.PlanTexts.{texts_agree}

-- a list with an item has a first one
some_task : (tasks : List AgentTask) → 1 ≤ length tasks → (t : AgentTask) × Contains tasks t
some_task [] some = absurd (omega (arith, some))
some_task (t ∷ ts) some = (t, contains_head t ts)

pub answer_for_files : (value : Values) (limit : ℕ) (team : List Factor) (t : Tasks)
    → All IsChecked team → 1 ≤ length team → AreTasksOf team t → All IsWithinLimits t.tasks → limit ≤ most_expansions
    → (AreTeamTasks t.tasks → IsHeuristic value t.tasks)
    → (schedule : List Event) (last : World) → run (team_with value limit t.tasks) schedule ≡ Some last → is_over last ≡ true
    → (plan : List PlanStep)
    × IsRight limit team last (answer_of last) plan
    × ((log : List Entry) → outcome_text (outcome_of last) (names_of team t.steps) log ≡ answer_text (length team) (answer_of last) plan log)
answer_for_files value limit team t all some are limits most heuristic schedule last ran finished =
    let found = files_stand team t all are in
    let numbering = found.0 in
    let stands = found.2 in
    let one_each = stands.one_each in
    let member = some_task t.tasks (omega (arith, one_each, some)) in
    let agreeing : AreTeamTasks t.tasks = record { agree = stands.agree; within = limits } in
    let right = answer_right (team_with value limit t.tasks) (record { tasks = agreeing; most = most }) (heuristic agreeing) member.0 member.1 schedule last ran finished in
    let size : length last.agents ≡ length team = team_size t.tasks last (run_of_team (team_with value limit t.tasks) schedule last ran) ∙ one_each in
    right_for_files value limit team t.tasks schedule last numbering stands (names_of team t.steps)
    (λ numbers plan shares named.
    texts_agree (names_of team t.steps) numbers plan numbering last shares named
    (λ place less. names_are team t are numbering found.1 place (omega (arith, less, size)))
    (λ agent low high. steps_are_own team t are numbering found.1 agent low (omega (arith, high, size)))
    ∙ ap (λ (n : ℕ). plan_lines n plan) size)
    (answer_of last) right

-- where it is that nothing is decided, the search is left undecided
pub left_undecided : (value : Values) (limit : ℕ) (team : List Factor) (t : Tasks)
    → All IsChecked team → 1 ≤ length team → AreTasksOf team t → All IsWithinLimits t.tasks → limit ≤ most_expansions
    → (AreTeamTasks t.tasks → IsHeuristic value t.tasks)
    → (schedule : List Event) (last : World) → run (team_with value limit t.tasks) schedule ≡ Some last → is_over last ≡ true
    → answer_of last ≡ Undecided
    → IsLeftUndecided team (team_with value limit t.tasks) schedule last
left_undecided value limit team t all some are limits most heuristic schedule last ran finished undecided =
    let found = files_stand team t all are in
    let stands = found.2 in
    let one_each = stands.one_each in
    let member = some_task t.tasks (omega (arith, one_each, some)) in
    let agreeing : AreTeamTasks t.tasks = record { agree = stands.agree; within = limits } in
    let right = answer_right (team_with value limit t.tasks) (record { tasks = agreeing; most = most }) (heuristic agreeing) member.0 member.1 schedule last ran finished in
    left_for_files value limit team t.tasks schedule last found.0 stands (names_of team t.steps)
    (subst (IsRightAnswer (team_with value limit t.tasks) schedule last) undecided right)

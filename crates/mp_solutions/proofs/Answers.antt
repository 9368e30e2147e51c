-- An answer that is right for the tasks of a team is right for its files, and its text is that by a plan.
use Rattle.std.proofs.Common.{◌≡◌, ℕ, List, [], ◌∷◌, ◌++◌, map, length, refl, ap, ◌∙◌}
use Rattle.std.specs.Prelude.{codes}
use Rattle.mp_forms.specs.declared.factor.Factor.{Factor}
use Rattle.mp_joint.specs.declared.plan.PlanStep.{PlanStep}
use Rattle.mp_task.specs.AgentTask.{AgentTask}
use Rattle.mp_task.specs.Plan.{TaskStep}
use Rattle.mp_messages.specs.declared.history.Entry.{Entry}
use Rattle.mp_messages.specs.declared.history.Event.{Event}
use Rattle.mp_world.specs.declared.answer.Answer.{Answer}
use Rattle.mp_world.specs.declared.answer.Answer.TheVariants.{Nothing, Solved, Unsolvable, Undecided}
use Rattle.mp_world.specs.Team.{team_with}
use Rattle.mp_world.specs.Values.{Values}
use Rattle.mp_world.specs.World.{World}
use Rattle.mp_team_verdicts.specs.Shares.{AreShares}
use Rattle.mp_team_verdicts.specs.Right.{IsRightAnswer}
use Rattle.mp_stands.specs.Numbering.{Numbering}
use Rattle.mp_stands.specs.Plans.{AreNamed}
use Rattle.mp_stands.specs.Stands.{Stands}
use Rattle.mp_text.specs.Lines.{Text, text_of_lines}
use Rattle.mp_text.specs.Outcome.{agent_lines, count_line, found_lines, labelled}
use Rattle.mp_solutions.specs.PlanText.{answer_text, plan_lines}
use Rattle.mp_solutions.specs.Right.{IsLeftUndecided, IsRight}
use Rattle.mp_solutions.proofs.Plans.{has_names, least_for_files, same_length, unsolvable_for_files}

module _ (value : Values) (limit : ℕ) (team : List Factor) (tasks : List AgentTask) (schedule : List Event) (last : World)
    (numbering : Numbering) (stands : Stands team numbering tasks) (names : List (List PlanStep)) where
  -- the lines of the shares are those of each plan that stands for them
  abbrev pub AreLinesOfPlans : Type 0
  AreLinesOfPlans =
      (numbers : List TaskStep) (plan : List PlanStep) → AreShares last numbers → AreNamed numbering numbers plan
      → agent_lines names 0 (map (λ r. r.share) last.agents) ≡ plan_lines (length team) plan

  pub right_for_files : AreLinesOfPlans → (answer : Answer) → IsRightAnswer (team_with value limit tasks) schedule last answer
      → (plan : List PlanStep)
      × IsRight limit team last answer plan
      × ((log : List Entry) → text_of_lines (found_lines answer (map (λ r. r.share) last.agents) names log) ≡ answer_text (length team) answer plan log)
  right_for_files lines Nothing right = absurd right
  right_for_files lines (Solved cost steps) right =
      let numbers = right.outcome.plan in
      let found = has_names team numbering tasks stands numbers right.outcome.solves in (
        found.plan,
        record {
          solves = found.solves;
          cost_is = found.cost_is ∙ right.outcome.cost_is;
          steps_are = same_length numbering numbers found.plan found.named ∙ right.steps_are;
          least = least_for_files team numbering tasks stands cost right.least;
        },
        λ log. ap (λ (xs : List Text). text_of_lines (labelled (codes "cost ") cost ∷ labelled (codes "length ") steps ∷ xs ++ count_line log ∷ []))
            (lines numbers found.plan right.outcome.shares found.named),
      )
  right_for_files lines Unsolvable right = ([], unsolvable_for_files team numbering tasks stands right, λ log. refl)
  right_for_files lines Undecided right = ([], (right.agent, right.undecided.spent), λ log. refl)

  pub left_for_files : IsRightAnswer (team_with value limit tasks) schedule last Undecided → IsLeftUndecided team (team_with value limit tasks) schedule last
  left_for_files right = record {
    left = right;
    least = least_for_files team numbering tasks stands right.undecided.at_limit.least right.undecided.least;
  }

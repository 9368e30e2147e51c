-- What shows in a world that a cost may be.
use Rattle.mp_world.proofs.Basics.{ℕ, List, sym, ap, subst, ◌∙◌, arith, Contains}
use Rattle.mp_reach.specs.Explored.{HasWitness}
use Rattle.mp_reach.specs.Explored.HasWitness.{open_entry, under_way, goal_entry}
use Rattle.mp_reach.specs.Found.{Entry as Seen, Message as Sent}
use Rattle.mp_reach.specs.LeadsOn.{IsGoal, Known}
use Rattle.mp_world.specs.AgentWords.{AgentTask, goals_hold}
use Rattle.mp_world.specs.Team.{AreTeamTasks}
use Rattle.mp_world.specs.World.{IsTeamWorld, World}
use Rattle.mp_world.specs.World as worlds
use Rattle.mp_world.proofs.Agents.{agree_numbered}
use Rattle.mp_world.proofs.Mail.{agent_of_team}
use Rattle.mp_team_states.specs.Sound.{AreStatesSound}
use Rattle.mp_team_states.proofs.GoodStates.{what_is_read}
use Rattle.mp_team_states.proofs.ReachedEntries.{entry_in}
use Rattle.mp_team_states.proofs.StepsSound.{task_at}
use Rattle.mp_team_states.specs.Estimates.{AreGoalsFlagged}
use Rattle.mp_team_states.specs.TeamFound.{found_of}
use Rattle.mp_team_states.specs.Witness.{HasWitnessIn}
use Rattle.mp_team_states.specs.Witness.HasWitnessIn.{open_entry as open_entry_in, state_under_way, goal_entry as goal_entry_in}
use Rattle.mp_team_states.proofs.Found.{found_entry, found_message}

module _ (tasks : List AgentTask) (are : AreTeamTasks tasks) where
  pub shown_in : (w : World) → IsTeamWorld tasks w → AreStatesSound tasks w → AreGoalsFlagged tasks w → (cost : ℕ) → HasWitness (IsGoal tasks) (found_of w) cost → HasWitnessIn w cost
  shown_in w team sound flags cost (open_entry i seen there is within) =
      let f = found_entry w i seen there in
      let g = ap (λ (x : Seen Known). x.cost) f.is in
      let h = ap (λ (x : Seen Known). x.estimate) f.is in
      open_entry_in i.0 i.1 f.entry (entry_in w i.0 i.1 f.agent_is f.entry f.there f.at) (ap (λ (x : Seen Known). x.mark) (sym f.is) ∙ is) (omega arith)
  shown_in w team sound flags cost (under_way x here within) =
      let f = found_message tasks (agree_numbered tasks are.agree) w team x here in
      let g = ap (λ (x : Sent Known). x.cost) f.is in
      let h = ap (λ (x : Sent Known). x.estimate) f.is in
      let at = task_at tasks are w team f.from f.sender f.sender_there in
      let read = what_is_read tasks are w team sound f.from f.to f.sender.task f.receiver at f.receiver_there f.bytes f.state f.here f.reads in
      state_under_way f.from f.to f.state (agent_of_team w f.from f.sender f.sender_there) (agent_of_team w f.to f.receiver f.receiver_there)
      (subst (λ (b : List ℕ). Contains (worlds.under_way w f.from f.to) b) read.0 f.here) (omega arith)
  shown_in w team sound flags cost (goal_entry i seen there goal within) =
      let f = found_entry w i seen there in
      let g = ap (λ (x : Seen Known). x.cost) f.is in
      let has = entry_in w i.0 i.1 f.agent_is f.entry f.there f.at in
      goal_entry_in i.0 i.1 f.entry has (flags i.0 i.1 f.entry has ∙ ap (λ (x : Seen Known). goals_hold tasks x.state.state) (sym f.is) ∙ goal) (omega arith)

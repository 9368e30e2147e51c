-- The machines of a team after a legal schedule.
use Rattle.std.specs.Prelude.{◌≡◌, ℕ, List, map, Option, Some, None}
use Rattle.mp_task.specs.AgentTask.{AgentTask}
use Rattle.mp_messages.specs.declared.history.Event.{Event}
use Rattle.mp_snapshot.specs.declared.verdict.Verdict.{Verdict}
use Rattle.mp_snapshot.specs.declared.verdict.Verdict.TheVariants.{Proved, NoPlan, Spent, Continue}
use Rattle.mp_machine.specs.declared.event.Ending.{Ending}
use Rattle.mp_machine.specs.declared.event.Ending.TheVariants as endings
use Rattle.mp_machine.specs.Machine.{AgentMachine}
use Rattle.mp_world.specs.Events.{run}
use Rattle.mp_world.specs.IsRun.{IsRun}
use Rattle.mp_world.specs.Team.{team_with}
use Rattle.mp_world.specs.Values.{Values}
use Rattle.mp_world.specs.World.{World}

-- what they have done is what the agents of a team have done after a legal schedule
pub record AreOfRun
    (value : Values)
    (machines : List AgentMachine)
    : Type 0 where
  pub limit : ℕ
  pub tasks : List AgentTask
  pub schedule : List Event
  pub last : World
  pub run : IsRun (team_with value limit tasks) schedule last
  pub agents : last.agents ≡ map (λ m. m.done) machines

-- the ending of agent 1 is the one that its verdict leads to
abbrev pub EndsBy : Option Verdict → Ending → Type 0
EndsBy None ending = ⊥
EndsBy (Some (Proved agent cost)) ending = (length : ℕ) × (ending ≡ endings.Solved length)
EndsBy (Some NoPlan) ending = ending ≡ endings.NoPlan
EndsBy (Some (Spent agent)) ending = ending ≡ endings.Spent
EndsBy (Some Continue) ending = ⊥

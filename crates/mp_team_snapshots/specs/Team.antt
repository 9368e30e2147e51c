-- The teams of which laws on snapshots speak, and what their agents may send.
use Rattle.std.specs.Prelude.{◌≡◌, ◌≤◌, ◌<◌, ℕ, ◌^◌, List, length, All}
use Rattle.mp_task.specs.AgentTask.{AgentTask}
use Rattle.mp_messages.specs.declared.message.Message.{Message}
use Rattle.mp_messages.specs.declared.message.Message.TheVariants.{State, Marker, Report, Pick, Trace, Length, Done}
use Rattle.mp_messages.specs.Spelling.{AreFindings}
use Rattle.mp_machine.specs.Outgoing.{Step}
use Rattle.mp_world.specs.World.{AreNumbered}

-- The tasks are those of a team of 1 to 16 agents, numbered from 1, which all know of so many
-- public facts.
pub record IsTeamOf (publics : ℕ) (tasks : List AgentTask) : Type 0 where
  pub numbered : AreNumbered tasks
  pub alike : All (λ t. t.publics ≡ publics) tasks
  pub facts : publics < 2 ^ 32
  pub some : 1 ≤ length tasks
  pub agents : length tasks ≤ 16

-- the numbers of a marker or of a report are such as messages have room for
abbrev pub HasRoom : Message → Type 0
HasRoom (State s) = Unit {0}
HasRoom (Marker number) = number < 2 ^ 60
HasRoom (Report found) = AreFindings found
HasRoom (Pick number) = Unit {0}
HasRoom (Trace sent back) = Unit {0}
HasRoom (Length plan) = Unit {0}
HasRoom (Done kind) = Unit {0}

-- the markers and the reports that go out in a step are such as messages have room for
pub record SendsFitting (s : Step) : Type 0 where
  pub fits : All (λ x. HasRoom x.message) s.out
